-- Definitions that only private functions of the audit use.
use Rattle.std.specs.Prelude.{◌≡◌, ◌≢◌, ℤ, ℕ, List, length, Option, Some, None, Result}
use Rattle.wire_records.specs.Records.{Record}
use Rattle.wire_records.specs.Commands.{Command, Answer, Plain}
use Rattle.wire_records.specs.Versions.{IsReadAs}
use Rattle.wire_records.specs.declared.command.BodyFault.{BodyFault}
use Rattle.wire_records.specs.declared.reply.Reply.{Reply}
use Rattle.flow_orders.specs.Orders.{Order}
use Rattle.flow_orders.specs.Outcomes.{Clearing, Skipping, Outcome, IsAdmissibleOutcome, IsAdmissibleClearing, IsAdmissibleSkip, IsWide, EndsSettled, end_of}
use Rattle.price_moves.specs.Retracing.{IsFirstIllegal}
use Rattle.batch_outcome.specs.declared.outcome.Outcome as published
use Rattle.batch_certificate.specs.declared.verdict.Verdict.TheVariants.{Right}
use Rattle.batch_outcome.specs.Published.{outcome_of}
use Rattle.batch_certificate.specs.Verdicts.{IsVerdict}
use Rattle.journal_records.specs.Replies.{EncodesAnswer}
use Rattle.market_rules.specs.Market.{Market}
use Rattle.market_rules.specs.Step.{ServesRead, holds_batch, after_batch}
use Rattle.market_rules.specs.Journal.{Step}
use Rattle.market_rules.specs.Settling.{MaySettle}
use Rattle.batch_audit.specs.Judging.{Changes}
use Rattle.batch_audit.specs.declared.change.Change.{Change}
use Rattle.batch_audit.specs.declared.finding.Finding.{Finding}
use Rattle.batch_audit.specs.declared.finding.Finding.TheVariants as finding
use Rattle.batch_audit.specs.Findings.{HasWholeTrace, HasLegalTrace, EndsUnsettled, HasStartDual, IsOtherDual, IsFinding}

-- what a record is read as gets this answer and the change follows from it; or, without a change, it doesn't get this answer
abbrev pub IsReadWeighed : Market → Result Command BodyFault → Answer Outcome → Option Change → Type 0
IsReadWeighed old read answer (Some change) = (new : Market) × ServesRead IsAdmissibleOutcome old read answer new × Changes old read change new
IsReadWeighed old read answer None = (new : Market) → ¬ ServesRead IsAdmissibleOutcome old read answer new

-- the record gets this answer and the change follows from it; or, without a change, it doesn't get this answer
abbrev pub IsAnswerWeighed : Market → Record → Answer Outcome → Option Change → Type 0
IsAnswerWeighed old asked answer (Some change) =
    (new : Market) × (made : Step IsReadAs IsAdmissibleOutcome old asked answer new) × Changes old made.read change new
IsAnswerWeighed old asked answer None = (new : Market) → ¬ Step IsReadAs IsAdmissibleOutcome old asked answer new

-- the answer has an admissible outcome of a batch that is allowed, and this is what the market settles; or it has none
abbrev pub IsOutcomeFor : Market → ℕ → Answer Outcome → Option published.Outcome → Type 0
IsOutcomeFor m budget answer (Some o) = MaySettle m o × holds_batch IsAdmissibleOutcome m budget answer (after_batch m (outcome_of m.orders o))
IsOutcomeFor m budget answer None = (new : Market) → ¬ holds_batch IsAdmissibleOutcome m budget answer new

-- the finding on an answer to a record that gets this plain reply
abbrev pub IsReplyFound : Answer Outcome → Reply → Finding → Type 0
IsReplyFound answer reply finding.NoReply = ⊥
IsReplyFound answer reply (finding.OtherReply right) = (right ≡ reply) × (answer ≢ Plain reply)
IsReplyFound answer reply (finding.Batch number) = ⊥
IsReplyFound answer reply (finding.Part verdict) = ⊥
IsReplyFound answer reply finding.SingleBook = ⊥
IsReplyFound answer reply finding.TraceLength = ⊥
IsReplyFound answer reply (finding.TraceStep place) = ⊥
IsReplyFound answer reply finding.AllSettled = ⊥
IsReplyFound answer reply (finding.StartDual right) = ⊥
IsReplyFound answer reply (finding.EndDual right) = ⊥
IsReplyFound answer reply finding.Legal = answer ≡ Plain reply

-- the finding on a clearing of a batch that is due
abbrev pub IsClearingFound : List Order → List ℤ → Clearing → Finding → Type 0
IsClearingFound orders start c finding.NoReply = ⊥
IsClearingFound orders start c (finding.OtherReply right) = ⊥
IsClearingFound orders start c (finding.Batch number) = ⊥
IsClearingFound orders start c (finding.Part verdict) = IsVerdict orders start c verdict × (verdict ≢ Right)
IsClearingFound orders start c finding.SingleBook = ⊥
IsClearingFound orders start c finding.TraceLength = ⊥
IsClearingFound orders start c (finding.TraceStep place) = ⊥
IsClearingFound orders start c finding.AllSettled = ⊥
IsClearingFound orders start c (finding.StartDual right) = ⊥
IsClearingFound orders start c (finding.EndDual right) = ⊥
IsClearingFound orders start c finding.Legal = IsAdmissibleClearing orders start c

-- the finding on a skip of a batch that is due; the excess that ends a move is counted in 1/`parts` of a unit
abbrev pub IsSkipFound : ℕ → List Order → List ℤ → ℕ → Skipping → Finding → Type 0
IsSkipFound parts orders start budget s finding.NoReply = ⊥
IsSkipFound parts orders start budget s (finding.OtherReply right) = ⊥
IsSkipFound parts orders start budget s (finding.Batch number) = ⊥
IsSkipFound parts orders start budget s (finding.Part verdict) = ⊥
IsSkipFound parts orders start budget s finding.SingleBook = ¬ IsWide orders
IsSkipFound parts orders start budget s finding.TraceLength = IsWide orders × (length s.trace ≢ budget)
IsSkipFound parts orders start budget s (finding.TraceStep place) = HasWholeTrace orders budget s × IsFirstIllegal parts orders start s.trace place
IsSkipFound parts orders start budget s finding.AllSettled = HasLegalTrace parts orders start budget s × EndsSettled parts orders start s.trace
IsSkipFound parts orders start budget s (finding.StartDual right) = EndsUnsettled parts orders start budget s × IsOtherDual orders start s.start_dual right
IsSkipFound parts orders start budget s (finding.EndDual right) = HasStartDual parts orders start budget s × IsOtherDual orders (end_of parts orders start s.trace) s.end_dual right
IsSkipFound parts orders start budget s finding.Legal = IsAdmissibleSkip parts orders start budget s

-- this is the finding on every entry whose first record is of some kind, and whose second encodes this answer
abbrev pub IsFoundWhere : Market → (Record → Type 0) → Answer Outcome → Finding → Type 0
IsFoundWhere m IsAsked answer found = (pair : Record × Record) → IsAsked pair.0 → EncodesAnswer pair.1 answer → IsFinding m pair found
