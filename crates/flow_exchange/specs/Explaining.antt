-- What `flow explain` makes of the bytes of its source.
use Rattle.std.specs.Prelude.{◌≡◌, ◌+◌, ℕ, List, [], ◌∷◌, length}
use Rattle.wire_records.specs.Records.{Record}
use Rattle.wire_records.specs.Commands.{Pair}
use Rattle.flow_orders.specs.Outcomes.{Outcome}
use Rattle.market_rules.specs.Market.{Market}
use Rattle.journal_words.specs.Findings.{IsExplained}
use Rattle.exit_status.specs.declared.status.Status.{Status}
use Rattle.flow_exchange.specs.HistoryFiles.{history_status, HistoryTo}
use Rattle.flow_exchange.specs.Auditing.{audit_text}

-- what is written: the line of what is found of the first invalid entry, or what an audit writes if all are valid
abbrev pub Explains : Market → List (Pair Record Outcome) → List (Record × Record) → List ℕ → List ℕ → Type 0
Explains market legal [] line text = text ≡ line
Explains market legal (bad ∷ more) line text = IsExplained market (length legal + 1) bad text

-- the first `limit` bytes result in this status and this text
abbrev pub ExplainsTo : ℕ → List ℕ → Status → List ℕ → Type 0
ExplainsTo limit = HistoryTo (history_status limit) (λ history text. Explains history.market history.legal history.following (audit_text history) text) limit
