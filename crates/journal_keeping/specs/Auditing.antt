-- How reading and auditing the entries that a disk keeps can stop.
use Rattle.std.specs.Prelude.{◌≡◌, ℕ, ◌+◌, List, length, ⊤}
use Rattle.wire_records.specs.Records.{Record}
use Rattle.wire_records.specs.Commands.{Pair}
use Rattle.flow_orders.specs.Outcomes.{Outcome}
use Rattle.market_rules.specs.Market.{Market}
use Rattle.market_history.specs.Histories.{Start}
use Rattle.batch_audit.specs.Legal.{IsIllegalPair}
use Rattle.journal_disk.specs.Pairs.{RecordPair}
use Rattle.journal_disk.specs.Stepping.{HasEntryAt, IsDamagedAt}
use Rattle.journal_keeping.specs.Openings.{BeginsLegal}
use Rattle.journal_keeping.specs.declared.fault.OpenFault.{OpenFault}
use Rattle.journal_keeping.specs.declared.fault.OpenFault.TheVariants as unopened

-- After stored entries that are a valid journal, the bytes are damaged at this place, or have the entry of this number, which isn't valid.
abbrev pub StopsAs : Start → OpenFault → List ℕ → Type 0
StopsAs begin (unopened.Damaged place) bytes =
    (legal : List (Pair Record Outcome)) × (market : Market) × BeginsLegal begin bytes legal market place × IsDamagedAt place bytes
StopsAs begin (unopened.Rejected number) bytes =
    (legal : List (Pair Record Outcome)) × (market : Market) × (place : ℕ) × BeginsLegal begin bytes legal market place
    × (bad : RecordPair) × (rest : List ℕ) × HasEntryAt place bad rest bytes × IsIllegalPair market bad × (number ≡ length legal + 1)
StopsAs begin unopened.Disk bytes = ⊤
StopsAs begin unopened.Memory bytes = ⊤
StopsAs begin unopened.NotDisk bytes = ⊥
