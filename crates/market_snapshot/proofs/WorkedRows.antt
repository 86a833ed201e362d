-- Worked checkpoints, by computation from the definitions.
use Rattle.std.proofs.Common.{◌≡◌, ◌<◌, ◌^◌, ℕ, ℤ, pos, List, [], ◌∷◌, ◌++◌, length, replicate, refl, sym, ap, ◌∙◌, arith, None}
use Rattle.std.specs.Prelude.{codes}
use Rattle.std.proofs.lemmas.Int.{ints}
use Rattle.std.proofs.lemmas.List.{append-nil}
use Rattle.std.proofs.lemmas.List.Elements.{All-nil}
use Rattle.wire_fields.specs.Numbers.{unsigned, signed, IsSigned}
use Rattle.wire_records.specs.declared.version.Version.TheVariants.{One}
use Rattle.flow_orders.specs.Orders.{Order}
use Rattle.market_rules.specs.Market.{empty_market, held_balance}
use Rattle.market_rules.proofs.Consistency.{consistent-empty}
use Rattle.market_parts.specs.Parts.{Parts}
use Rattle.market_snapshot.specs.Checkpoints.{checkpoint_bytes, IsCheckpoint, BeginsWithNoCheckpoint}
use Rattle.market_snapshot.specs.Encodings.{tickers_encoding, accounts_encoding, totals_encoding, exchange_encoding, batches_encoding, orders_encoding, parts_encoding, parts_of_market}
use Rattle.market_snapshot.specs.Widths.{FitsAccount, FitsOrder, FitWidths}
use Rattle.market_snapshot.proofs.OneMarket.{fitting, encoded}
use Rattle.market_snapshot.proofs.OneParts.{parts_unique}

-- the bytes with this many grains as the total of money, of version One, of no assets, accounts and orders, before the first batch
abbrev with_total : ℕ → List ℕ
with_total grains = codes "FLOWSNP1" ++ (1 ∷ (replicate 21 0 ++ (grains ∷ (replicate 16 0 ++ (replicate 7 0 ++ (1 ∷ replicate 8 0))))))

-- the empty market has 63 bytes, all zeros but the magic, the version and the next number
sixty_three : length (with_total 0) ≡ 63
sixty_three = refl

empty_bytes : checkpoint_bytes (empty_market One) ≡ with_total 0
unfolding checkpoint_bytes unsigned signed
empty_bytes = refl

empty_checkpoint : IsCheckpoint (empty_market One) (with_total 0)
empty_checkpoint = record {
  consistent = consistent-empty One;
  next = omega arith;
  last = All-nil (λ (o : Order). o.last < 2 ^ 32);
  encoded = sym empty_bytes;
}

-- with a grain that nobody holds, these bytes begin with no checkpoint
a_grain : Parts
a_grain = record {
  version = 1;
  balances = record { accounts = []; credits = []; totals = record { money = pos 1; units = [] } };
  tickers = [];
  exchange = record { money = pos 0; units = [] };
  orders = [];
  next_order = 1;
  batches = 0;
  last_prices = [];
}

grain_bytes : parts_encoding a_grain ≡ with_total 1
unfolding a_grain parts_encoding tickers_encoding accounts_encoding totals_encoding exchange_encoding batches_encoding orders_encoding unsigned signed
grain_bytes = refl

grain_fits : FitWidths a_grain
unfolding a_grain
grain_fits = record {
  version = omega arith;
  assets = omega arith;
  tickers = All-nil (λ (t : List ℕ). length t ≡ 8);
  balances = record {
    count = omega arith;
    one_each = refl;
    accounts = All-nil (FitsAccount 0);
    total_money = (omega (arith, ints), omega (arith, ints));
    totals = refl;
    total_units = All-nil (IsSigned 8);
  };
  exchange = record { money = (omega (arith, ints), omega (arith, ints)); balances = refl; units = All-nil (IsSigned 8) };
  next = omega arith;
  batches = omega arith;
  price_each = refl;
  prices = All-nil (IsSigned 8);
  few = omega arith;
  orders = All-nil FitsOrder;
}

-- what the parts of a market would hold
held_of : Parts → ℤ
held_of p = held_balance (record { version = One; tickers = p.tickers; balances = p.balances; exchange = p.exchange; orders = []; next_order = p.next_order; batches = p.batches; last_prices = p.last_prices }) None

a_grain_too_much : BeginsWithNoCheckpoint (with_total 1)
unfolding a_grain held_of
a_grain_too_much m prefix rest is e =
    let same = parts_unique (parts_of_market m) a_grain rest [] (fitting m prefix is) grain_fits (ap (λ z. z ++ rest) (sym (encoded m prefix is)) ∙ sym e ∙ sym grain_bytes ∙ sym (append-nil (parts_encoding a_grain))) in
    let held : held_of (parts_of_market m) ≡ m.balances.totals.money = is.consistent.totals None tt in
    let none : held_of a_grain ≡ pos 0 = refl in
    let total : m.balances.totals.money ≡ pos 1 = ap (λ (p : Parts). p.balances.totals.money) same.0 in
    absurd (omega (arith, ints, (sym held ∙ ap held_of same.0 ∙ none), total))
