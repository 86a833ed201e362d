-- What `flow report` makes of the bytes of its source.
use Rattle.std.specs.Prelude.{◌≡◌, ◌⊎◌, ◌+◌, ℕ, List, [], ◌∷◌, ◌++◌}
use Rattle.wire_records.specs.Records.{Record}
use Rattle.wire_records.specs.Commands.{Pair}
use Rattle.wire_records.specs.Versions.{IsReadAs}
use Rattle.flow_orders.specs.Outcomes.{Outcome, IsAdmissibleOutcome}
use Rattle.journal_records.specs.Formats.{records_of}
use Rattle.market_rules.specs.Market.{Market}
use Rattle.market_rules.specs.Journal.{Step}
use Rattle.market_rules.specs.Allocating.{RecordMayAllocate}
use Rattle.market_history.specs.Histories.{Start, market_of}
use Rattle.batch_audit.specs.Legal.{IsLegalPair}
use Rattle.batch_report.specs.Reports.{IsReport}
use Rattle.exit_status.specs.declared.status.Status.{Status}
use Rattle.flow_exchange.specs.HistoryFiles.{history_status, HistoryTo, IsAtPairOf, LacksStart}

-- the entries are steps from a market to another, and the text is their lines, entry after entry, numbered from `number` on
abbrev pub AreReported : Market → ℕ → List (Pair Record Outcome) → Market → List ℕ → Type 0
AreReported old number [] new text = (new ≡ old) × (text ≡ [])
AreReported old number (pair ∷ pairs) new text =
    (next : Market) × (first : List ℕ) × (rest : List ℕ) × Step IsReadAs IsAdmissibleOutcome old pair.asked pair.answer next
    × IsReport next number (records_of pair) first × AreReported next (number + 1) pairs new rest × (text ≡ first ++ rest)

-- the first `limit` bytes result in this status and this text, which is that of the valid entries
abbrev pub ReportsTo : ℕ → List ℕ → Status → List ℕ → Type 0
ReportsTo limit = HistoryTo (history_status limit) (λ history text. AreReported (market_of history.start) 1 history.legal history.market text) limit

-- where memory may run out: for a checkpoint, at an entry whose command may run out of it, or at a valid entry, for its text
abbrev pub ReportsShort : ℕ → List ℕ → List ℕ → Type 0
ReportsShort limit bytes text =
    LacksStart limit bytes text
    ⊎ ((start : Start) × (legal : List (Pair Record Outcome)) × (market : Market) × (next : Record × Record) × IsAtPairOf limit bytes start legal market next
    × (RecordMayAllocate market next.0 ⊎ ((new : Market) × IsLegalPair market next new)) × AreReported (market_of start) 1 legal market text)
