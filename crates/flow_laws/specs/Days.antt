-- The days of a market: each is checked alone, from the checkpoint of the day before, and together they are one history.
use Rattle.std.specs.Prelude.{◌≡◌, ◌<◌, ◌≤◌, ◌+◌, ◌^◌, ℕ, List, [], ◌∷◌, ◌++◌, length}
use Rattle.std.specs.List.{concat, flat_map}
use Rattle.wire_records.specs.Commands.{Pair}
use Rattle.wire_records.specs.Records.{Record}
use Rattle.wire_records.specs.Versions.{IsReadAs}
use Rattle.flow_orders.specs.Outcomes.{Outcome}
use Rattle.journal_records.specs.Pairs.{pair_encoding}
use Rattle.market_rules.specs.Market.{Market}
use Rattle.market_rules.specs.Deposits.{HoldsDeposits}
use Rattle.market_rules.specs.Promises.{KeepsPromises}
use Rattle.market_snapshot.specs.Checkpoints.{checkpoint_bytes}
use Rattle.market_history.specs.Histories.{Start, CanStart, market_of, encode_start}
use Rattle.flow_exchange.specs.declared.form.Form.TheVariants.{Checkpoint}
use Rattle.exit_status.specs.declared.status.Status.TheVariants.{Done}
use Rattle.flow_exchange.specs.HistoryFiles.{AreLegalFrom}
use Rattle.flow_exchange.specs.Program.{ComesTo}

-- Bytes that begin a history, and after them those of one day after the other. `checkpoint` is done for the first day after the beginning,
-- and for each other after what it writes of the day before. At the end that is the last one.
abbrev pub AreDays : (limit : ℕ) → (begins : List ℕ) → (days : List (List ℕ)) → (ends : List ℕ) → Type 0
AreDays limit begins [] ends = ends ≡ begins
AreDays limit begins (day ∷ days) ends = (next : List ℕ) × ComesTo Checkpoint limit (begins ++ day) Done next × AreDays limit next days ends

-- The days are one history, however long it is: their bytes are those of entries that are all valid, one after the other, and lead to the
-- market of the last checkpoint. These keep the promises of the exchange on the totals, on each batch and on the caps of orders across all
-- days. Where the whole is within a limit, `checkpoint` writes the last checkpoint of it too.
pub record AreOneHistory (start : Start) (days : List (List ℕ)) (ends : List ℕ) : Type 0 where
  pub pairs : List (Pair Record Outcome)
  pub market : Market
  pub legal : AreLegalFrom start pairs market
  pub encoded : concat days ≡ flat_map pair_encoding pairs
  pub ends_in : ends ≡ checkpoint_bytes market
  pub deposits : HoldsDeposits IsReadAs (market_of start) pairs market
  pub keeps : KeepsPromises IsReadAs (market_of start) pairs
  pub whole : (most : ℕ) → length (encode_start start ++ concat days) ≤ most → ComesTo Checkpoint most (encode_start start ++ concat days) Done ends

-- days of which each is checked so are one history, while the number of the next order at their beginning and their bytes are together
-- below 2^63
abbrev pub DaysAreOneHistory : Type 0
DaysAreOneHistory = (limit : ℕ) (start : Start) (day : List ℕ) (days : List (List ℕ)) (ends : List ℕ) → CanStart start
    → (market_of start).next_order + length (concat (day ∷ days)) < 2 ^ 63 → AreDays limit (encode_start start) (day ∷ days) ends → AreOneHistory start (day ∷ days) ends
