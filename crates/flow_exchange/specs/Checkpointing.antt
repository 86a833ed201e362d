-- What `flow checkpoint` makes of the bytes of its source.
use Rattle.std.specs.Prelude.{◌≡◌, ◌⊎◌, ℕ, List, []}
use Rattle.market_snapshot.specs.Checkpoints.{checkpoint_bytes}
use Rattle.exit_status.specs.declared.status.Status.{Status}
use Rattle.exit_status.specs.declared.status.Status.TheVariants.{Done}
use Rattle.flow_exchange.specs.JournalFiles.{if_whole}
use Rattle.flow_exchange.specs.HistoryFiles.{History, history_status, HistoryTo}
use Rattle.flow_exchange.specs.Auditing.{AuditsShort}

-- what is written: the checkpoint of the market at the end if all was done, and else nothing
abbrev pub checkpoint_text : History → List ℕ
checkpoint_text history = if_whole history.following history.ending (checkpoint_bytes history.market) []

-- the first `limit` bytes result in this status and this text
abbrev pub CheckpointsTo : ℕ → List ℕ → Status → List ℕ → Type 0
CheckpointsTo limit = HistoryTo (history_status limit) (λ history text. text ≡ checkpoint_text history) limit

-- where memory may run out: where it may in an audit, or at the end of a history whose entries are all valid, for the checkpoint
abbrev pub CheckpointsShort : ℕ → List ℕ → List ℕ → Type 0
CheckpointsShort limit bytes text =
    AuditsShort limit bytes text ⊎ ((whole : List ℕ) × CheckpointsTo limit bytes Done whole × (text ≡ []))
