-- What an account is told follows from what it knows at the beginning and observes then.
use Rattle.std.proofs.Common.{◌≡◌, ℕ, ◌-◌, List, length, refl, sym, ap, subst, ◌∙◌, arith}
use Rattle.std.proofs.lemmas.List.{length-replicate}
use Rattle.flow_accounts.specs.Balances.{IsAsset, account_count, credit_of}
use Rattle.flow_accounts.proofs.ListLemmas.{any_of_one}
use Rattle.market_rules.specs.Market.{Market, IsConsistent, start_prices}
use Rattle.market_rules.proofs.Consistency.{consistent-empty}
use Rattle.market_history.specs.Histories.{Start, Empty, Kept, market_of, CanStart}
use Rattle.answer_text.specs.declared.header.Recipient.TheVariants.{Desk}
use Rattle.statement_rules.specs.Holdings.{held_in}
use Rattle.desk_messages.specs.Desks.{Desks, nothing, no_desks, tally_of}
use Rattle.desk_lines.specs.Laws.{OneWish}
use Rattle.desk_privacy.specs.Letters.{letters_for}
use Rattle.desk_privacy.specs.Observing.{Observation}
use Rattle.desk_privacy.specs.Knowing.{AreAlike, CountsAlike}
use Rattle.desk_privacy.specs.Laws.{LettersArePrivate, InputsArePrivate, FirstLettersArePrivate}
use Rattle.desk_privacy.proofs.Learning.{Known, Knows, IsLearned, IsCounted, Hears, hears_one}
use Rattle.desk_privacy.proofs.Lines.{lines_heard, first_heard}

-- what an account knows of a market and of the counts
abbrev known_in : ℕ → Market → Desks → Knows
known_in account m d = record {
  market = record { version = m.version; holding = held_in account m; credit = credit_of m.balances account; prices = start_prices m; batches = m.batches };
  own = tally_of d (Desk account);
  all = d.all;
  left = 0;
}

-- the same is known of markets in which the account knows the same
alike : (account : ℕ) (m n : Market) (k j : Known) → IsConsistent m → IsConsistent n → IsLearned account m k → IsLearned account n j → k ≡ j → AreAlike account m n
alike account m n k j consistent also one other same =
    let again : IsLearned account m j = subst (IsLearned account m) same one in
    record {
      version = sym again.version ∙ other.version;
      holding = record {
        tickers = sym again.holding.tickers ∙ other.holding.tickers;
        opened = sym again.holding.opened ∙ other.holding.opened;
        money = λ some. sym (again.holding.money some) ∙ other.holding.money some;
        units = λ some asset is.
            let here : IsAsset m.balances asset = omega (arith, is, ap length again.holding.tickers, ap length other.holding.tickers, consistent.one_each.tickers, also.one_each.tickers) in
            sym (again.holding.units some asset here) ∙ other.holding.units some asset is;
        orders = sym again.holding.orders ∙ other.holding.orders;
      };
      credit = sym again.credit ∙ other.credit;
      batches = sym again.batches ∙ other.batches;
      prices = sym again.prices ∙ other.prices;
    }

counts_alike : (account : ℕ) (d e : Desks) (k j : Knows) → IsCounted account d k → IsCounted account e j → k ≡ j → CountsAlike account d e
counts_alike account d e k j one other same = record {
  own = sym one.own ∙ ap (λ (x : Knows). x.own) same ∙ other.own;
  all = sym one.all ∙ ap (λ (x : Knows). x.all) same ∙ other.all;
}

pub letters_are_private : OneWish → LettersArePrivate
letters_are_private one_wish account one other d e count number lines others pairs more letters written noted known m n later after some consistent also counts counts_too are_alike alike_counts first second same =
    let k : Knows = known_in account one d in
    let heard = lines_heard account some lines one m d later count pairs letters noted k consistent counts
    (record { version = refl; holding = record { tickers = refl; opened = refl; money = λ is. refl; units = λ is asset there. refl; orders = refl }; credit = refl; prices = refl; batches = refl })
    (record { own = refl; all = refl }) refl first in
    let heard_too = lines_heard account some others other n e after number more written known k also counts_too
    (record { version = are_alike.version; holding = are_alike.holding; credit = are_alike.credit; prices = are_alike.prices; batches = are_alike.batches })
    (record { own = alike_counts.own; all = alike_counts.all }) refl second in
    let both = hears_one account one_wish noted k (letters_for account letters) (letters_for account written) heard.known heard_too.known heard.hears
    (subst (λ (x : List Observation). Hears account k x (letters_for account written) heard_too.known) (sym same) heard_too.hears) in (
      both.0,
      alike account m n heard.known.market heard_too.known.market heard.consistent heard_too.consistent heard.learned heard_too.learned (ap (λ (x : Knows). x.market) both.1),
      counts_alike account later after heard.known heard_too.known heard.counted heard_too.counted both.1,
    )

-- a market begins as a consistent one
consistent_start : (begin : Start) → CanStart begin → IsConsistent (market_of begin)
consistent_start (Empty version) starts = consistent-empty version
consistent_start (Kept market) starts = starts.consistent

pub inputs_are_private : OneWish → InputsArePrivate
inputs_are_private one_wish account one other lines others pairs more letters written noted known m n later after some starts also are_alike first second same =
    let a = account_count (market_of one).balances in
    let b = account_count (market_of other).balances in
    (letters_are_private one_wish account (market_of one) (market_of other) (no_desks a) (no_desks b) 0 0 lines others pairs more letters written noted known m n later after some
    (consistent_start one starts) (consistent_start other also) (length-replicate a nothing) (length-replicate b nothing) are_alike
    (record { own = any_of_one a (account - 1) nothing ∙ sym (any_of_one b (account - 1) nothing); all = refl }) first second same).0

-- the beginnings of two inputs that are alike
begun_learned : (account : ℕ) (one other : Market) → AreAlike account one other → IsLearned account other (known_in account one (no_desks (account_count one.balances))).market
begun_learned account one other are = record { version = are.version; holding = are.holding; credit = are.credit; prices = are.prices; batches = are.batches }

pub first_letters_are_private : OneWish → FirstLettersArePrivate
first_letters_are_private one_wish account one other lines others pairs more letters written noted known some starts also are_alike first second same =
    let a = account_count (market_of one).balances in
    let b = account_count (market_of other).balances in
    let k : Knows = known_in account (market_of one) (no_desks a) in
    let heard = first_heard account some (market_of one) (no_desks a) 0 lines pairs letters noted k (consistent_start one starts) (length-replicate a nothing)
    (record { version = refl; holding = record { tickers = refl; opened = refl; money = λ is. refl; units = λ is asset there. refl; orders = refl }; credit = refl; prices = refl; batches = refl })
    (record { own = refl; all = refl }) refl first in
    let heard_too = first_heard account some (market_of other) (no_desks b) 0 others more written known k (consistent_start other also) (length-replicate b nothing)
    (begun_learned account (market_of one) (market_of other) are_alike)
    (record { own = any_of_one a (account - 1) nothing ∙ sym (any_of_one b (account - 1) nothing); all = refl }) refl second in
    (hears_one account one_wish noted k (letters_for account letters) (letters_for account written) heard.0 heard_too.0 heard.1
    (subst (λ (x : List Observation). Hears account k x (letters_for account written) heard_too.0) (sym same) heard_too.1)).0
