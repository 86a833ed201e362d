-- What contracts see of the views of a journal: the entry that bytes begin with, and the answer that a record encodes.
use Rattle.std.specs.Prelude.{◌≡◌, ◌≢◌, ℕ, List, [], ◌++◌, Option, Some, None, length, drop}
use Rattle.wire_records.specs.Records.{Record}
use Rattle.wire_records.specs.Commands.{Answer, Plain, Batch}
use Rattle.wire_records.specs.Grammars.{BeginsWithNone}
use Rattle.flow_orders.specs.Outcomes.{Outcome, Cleared, Skipped}
use Rattle.journal_records.specs.Replies.{EncodesAnswer}
use Rattle.journal_records.specs.Formats.{journals}
use Rattle.journal_records.specs.declared.pair.PairFramed.{PairFramed}
use Rattle.journal_records.specs.declared.pair.PairFramed.TheVariants.{Whole, End, Broken}
use Rattle.journal_records.specs.declared.reply_view.ReplyView.{ReplyView}
use Rattle.journal_records.specs.declared.reply_view.ReplyView.TheVariants as view

-- what bytes begin with: a complete entry of `taken` bytes, nothing since there are none, or no complete entry within the limits
abbrev pub IsPairPrefix : PairFramed → List ℕ → Type 0
IsPairPrefix (Whole pair taken) bytes =
    journals.units.IsLawful pair × (taken ≡ length (journals.units.encode pair)) × (bytes ≡ journals.units.encode pair ++ drop taken bytes)
IsPairPrefix End bytes = bytes ≡ []
IsPairPrefix Broken bytes = (bytes ≢ []) × BeginsWithNone journals.units bytes

-- the answer that a view shows
abbrev pub answer_of : ReplyView → Answer Outcome
answer_of (view.Plain reply) = Plain reply
answer_of (view.Cleared cleared) = Batch cleared.batch (Cleared cleared.clearing)
answer_of (view.Skipped skipped) = Batch skipped.batch (Skipped skipped.skipping)

-- what a record is read as: the answer that it encodes, or `None` if it encodes none
abbrev pub IsReplyRead : Record → Option ReplyView → Type 0
IsReplyRead r (Some seen) = EncodesAnswer r (answer_of seen)
IsReplyRead r None = (answer : Answer Outcome) → ¬ EncodesAnswer r answer
