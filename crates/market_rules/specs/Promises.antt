-- What a journal promises of its batches, and of the fills of its orders.
use Rattle.std.specs.Prelude.{◌≡◌, ◌⊎◌, ℕ, ◌+◌, ◌<◌, ◌≤◌, pos, ◌≤ℤ◌, true, List, ◌∷◌, ◌++◌, map, All, Contains, Result, Ok, Option}
use Rattle.wire_records.specs.Commands.{Command, RunBatch, Batch, Pair}
use Rattle.wire_records.specs.declared.command.BodyFault.{BodyFault}
use Rattle.wire_records.specs.declared.version.Version.{Version}
use Rattle.flow_accounts.specs.Balances.{IsKind}
use Rattle.flow_orders.specs.Orders.{Order}
use Rattle.flow_orders.specs.Trades.{going_on}
use Rattle.flow_orders.specs.Outcomes.{Fill, Clearing, Skipping, Outcome, Cleared, Skipped, IsAdmissibleOutcome, IsAdmissibleClearing, IsAdmissibleSkip, are_single, ClearsNear}
use Rattle.flow_orders.specs.Welfare.{IsOptimalWithin}
use Rattle.batch_outcome.specs.GapBound.{gap_bound}
use Rattle.batch_outcome.specs.Progress.{LowersTheDual}
use Rattle.market_rules.specs.Market.{Market, parts_of, start_prices, held_balance}
use Rattle.market_rules.specs.Journal.{Step, Follows, Places, fills_of}

-- what accounts and exchange hold together is the same, of money and of each asset
abbrev pub HoldTheSame : Market → Market → Type 0
HoldTheSame old new = (kind : Option ℕ) → IsKind old.balances kind → held_balance new kind ≡ held_balance old kind

-- Reads: what records are read as in each version; start: the market before the first entry, for a journal the empty one of its version
module _ {R : Type 0} (Reads : Version → R → Result Command BodyFault → Type 0) (start : Market) where
  -- One of the entries holds a batch with this outcome: the entries before it lead to the old market, and it leads to the new one.
  pub record HoldsBatch (pairs : List (Pair R Outcome)) (old : Market) (outcome : Outcome) (new : Market) : Type 0 where
    pub before : List (Pair R Outcome)
    pub after : List (Pair R Outcome)
    pub asked : R
    pub budget : ℕ
    pub number : ℕ
    pub stands : pairs ≡ before ++ record { asked = asked; answer = Batch number outcome } ∷ after
    pub led : Follows Reads IsAdmissibleOutcome start before old
    pub asks : Reads old.version asked (Ok (RunBatch budget))
    pub made : Step Reads IsAdmissibleOutcome old asked (Batch number outcome) new

  -- The entries keep the promises of the exchange, whoever wrote them.
  pub record KeepsPromises (pairs : List (Pair R Outcome)) : Type 0 where
    -- Of each batch that cleared: there is one price for each asset and one rate for each live order, each rate is a rounding of
    -- its order's demand at the prices, the residuals are the imbalances of the rates, each within its asset's tolerance, and the
    -- gap is that of rates and prices.
    pub cleared : (old new : Market) (c : Clearing) → HoldsBatch pairs old (Cleared c) new → IsAdmissibleClearing old.orders (start_prices old) c
    -- No balanced rates have more welfare than the published rates and the published gap together.
    pub optimal : (old new : Market) (c : Clearing) → HoldsBatch pairs old (Cleared c) new → IsOptimalWithin c.gap old.orders (map (λ (f : Fill). f.rate) c.fills)
    -- The gap is at most what all roundings can lose, and what imbalances within their tolerances can cost.
    pub bounded : (old new : Market) (c : Clearing) → HoldsBatch pairs old (Cleared c) new → c.gap ≤ℤ pos (gap_bound old.orders c.prices)
    -- Of each batch that was skipped: some live order has two legs or more, its trace is valid by the version's parts of a unit and
    -- has as many moves as the budget, some asset is unsettled at its end, and the two numbers are the dual values at its start and
    -- its end.
    pub skipped : (old new : Market) (s : Skipping) (batch : HoldsBatch pairs old (Skipped s) new) → IsAdmissibleSkip (parts_of old.version) old.orders (start_prices old) batch.budget s
    -- The trace of a batch that was skipped lowers the exact dual value by at least its movement, at least a grain for each move,
    -- and so the published dual values differ by more than the movement less the number of orders.
    pub progress : (old new : Market) (s : Skipping) → HoldsBatch pairs old (Skipped s) new → LowersTheDual (parts_of old.version) old.orders (start_prices old) s
    -- After a batch that was skipped, the orders whose last batch it was have left, one more batch is counted, and all else is as
    -- before: balances, fills and last prices.
    pub stays : (old new : Market) (s : Skipping) → HoldsBatch pairs old (Skipped s) new → new ≡ record old { orders = going_on (old.batches + 1) old.orders; batches = old.batches + 1 }
    -- No order trades after its last batch, or stays after it, whether it cleared or was skipped.
    pub lasts : (old new : Market) (outcome : Outcome) → HoldsBatch pairs old outcome new
        → All (λ (o : Order). (o.last ≡ 0) ⊎ (new.batches ≤ o.last)) old.orders × All (λ (o : Order). (o.last ≡ 0) ⊎ (new.batches < o.last)) new.orders
    -- No batch changes what accounts and exchange hold together.
    pub totals : (old new : Market) (outcome : Outcome) → HoldsBatch pairs old outcome new → HoldTheSame old new
    -- No fills of an order that the entries place pass its cap, whether it has a last batch or not.
    pub fills : (before after : List (Pair R Outcome)) (pair : Pair R Outcome) (number cap : ℕ)
        → pairs ≡ before ++ pair ∷ after → Places (Reads start.version) number cap pair → fills_of number pairs ≤ cap
    -- No fills of an order that is live before the first entry pass its cap, with what was filled of it before.
    pub live_fills : (o : Order) → Contains start.orders o → o.filled + fills_of o.number pairs ≤ o.cap

  -- What batches of the canonical rule promise besides: if each live order has one leg, the batch cleared, at prices within 2^60
  -- grains, and an asset that was settled kept its price.
  abbrev pub ClearNear : List (Pair R Outcome) → Type 0
  ClearNear pairs = (old new : Market) (outcome : Outcome) → HoldsBatch pairs old outcome new → are_single old.orders ≡ true → ClearsNear old.orders (start_prices old) outcome
