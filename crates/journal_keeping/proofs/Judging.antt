-- Kept entries have one judgement, from whatever market they begin in.
use Rattle.std.proofs.Common.{◌≡◌, List, ◌++◌, map}
use Rattle.wire_records.specs.Records.{Record}
use Rattle.wire_records.specs.Commands.{Pair}
use Rattle.flow_orders.specs.Outcomes.{Outcome}
use Rattle.journal_records.specs.Formats.{records_of}
use Rattle.market_rules.specs.Market.{Market}
use Rattle.market_history.specs.Histories.{Start, market_of}
use Rattle.batch_audit.specs.Legal.{StopsAt}
use Rattle.batch_audit.proofs.LawProofs.{judged_once}
use Rattle.journal_keeping.specs.Keeping.{IsKeptJournal}

-- the entries that follow a beginning are judged in one way
pub one_judgement : (begin : Start) (p q : List (Pair Record Outcome)) (x y : List (Record × Record)) (m n : Market) → map records_of p ++ x ≡ map records_of q ++ y → IsKeptJournal begin p m → IsKeptJournal begin q n
    → StopsAt m x → StopsAt n y → (p ≡ q) × (x ≡ y) × (m ≡ n)
one_judgement begin p q x y m n parts first other stops ends = judged_once (market_of begin) p q x y m n parts first.each other.each first.steps other.steps stops ends
