-- What `flow audit` makes of the bytes of its source.
use Rattle.std.specs.Prelude.{◌≡◌, ◌⊎◌, ℕ, List, [], length}
use Rattle.wire_records.specs.Records.{Record}
use Rattle.wire_records.specs.Commands.{Pair}
use Rattle.flow_orders.specs.Outcomes.{Outcome}
use Rattle.market_rules.specs.Market.{Market}
use Rattle.market_rules.specs.Allocating.{RecordMayAllocate}
use Rattle.market_history.specs.Histories.{Start}
use Rattle.journal_replay.specs.Audits.{cleared_in, skipped_in}
use Rattle.journal_words.specs.Line.{counted_line}
use Rattle.exit_status.specs.declared.status.Status.{Status}
use Rattle.flow_exchange.specs.JournalFiles.{if_whole}
use Rattle.flow_exchange.specs.HistoryFiles.{History, history_status, HistoryTo, IsAtPairOf, LacksStart}

-- the line on valid entries
abbrev pub legal_line : List (Pair Record Outcome) → List ℕ
legal_line legal = counted_line (length legal) (cleared_in legal) (skipped_in legal)

-- what an audit writes: the line if all was done, and else nothing
abbrev pub audit_text : History → List ℕ
audit_text history = if_whole history.following history.ending (legal_line history.legal) []

-- an audit of the first `limit` bytes results in this status and this text
abbrev pub AuditsTo : ℕ → List ℕ → Status → List ℕ → Type 0
AuditsTo limit = HistoryTo (history_status limit) (λ history text. text ≡ audit_text history) limit

-- where memory may run out: for a checkpoint, or at an entry whose command may run out of it
abbrev pub AuditsShort : ℕ → List ℕ → List ℕ → Type 0
AuditsShort limit bytes text =
    LacksStart limit bytes text
    ⊎ ((start : Start) × (legal : List (Pair Record Outcome)) × (market : Market) × (next : Record × Record) × IsAtPairOf limit bytes start legal market next × RecordMayAllocate market next.0 × (text ≡ []))
