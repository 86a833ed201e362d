-- The market that is made of the parts of a consistent one.
use Rattle.std.proofs.Common.{◌≡◌, ℕ, ℤ, List, refl}
use Rattle.market_rules.specs.Market.{Market, IsConsistent}
use Rattle.market_parts.specs.Parts.{Parts, AreConsistent, HasParts, market_of}
use Rattle.market_parts.specs.declared.made.ConsistentParts.{ConsistentParts}
use Rattle.market_parts.specs.Made.{AreMadeOf}

-- the market of the parts that were made, and of the numbers and prices that are read beside them
abbrev pub made_market : ConsistentParts → ℕ → ℕ → List ℤ → Market
made_market made next batches prices = record {
  version = made.version;
  tickers = made.tickers;
  balances = made.accounts;
  exchange = made.exchange;
  orders = made.book.orders;
  next_order = next;
  batches = batches;
  last_prices = prices;
}

module _ (p : Parts) (made : ConsistentParts) (are : AreMadeOf p made) where
  pub made_is : (next batches : ℕ) (prices : List ℤ) → next ≡ p.next_order → batches ≡ p.batches → prices ≡ p.last_prices → made_market made next batches prices ≡ market_of made.version p
  made_is next batches prices numbered held last = rw (numbered, held, last, are.tickers, are.balances, are.exchange, are.orders) refl

  pub made_has : (next batches : ℕ) (prices : List ℤ) → next ≡ p.next_order → batches ≡ p.batches → prices ≡ p.last_prices → HasParts p (made_market made next batches prices)
  made_has next batches prices numbered held last = record { version = are.version; market = made_is next batches prices numbered held last }

  pub made_consistent : (next batches : ℕ) (prices : List ℤ) → next ≡ p.next_order → batches ≡ p.batches → prices ≡ p.last_prices → IsConsistent (made_market made next batches prices)
  made_consistent next batches prices numbered held last = rw (made_is next batches prices numbered held last) are.consistent

  pub parts_consistent : AreConsistent p
  parts_consistent = record { market = market_of made.version p; parts = record { version = are.version; market = refl }; consistent = are.consistent; next = are.next }
