-- What a record that was answered is read as, and what its answer tells.
use Rattle.std.proofs.Common.{◌≡◌, ◌++◌, ℕ, List, codes, decimal, refl, Result, Ok, Err, sym, ap, subst, ◌∙◌}
use Rattle.wire_records.specs.Records.{Record}
use Rattle.wire_records.specs.Commands.{Command, Answer, Plain, Batch}
use Rattle.wire_records.specs.CommandRecords.{Encodes}
use Rattle.wire_records.specs.Versions.{IsReadAs}
use Rattle.wire_records.specs.declared.command.BodyFault.{BodyFault}
use Rattle.wire_records.specs.declared.reply.Reply.TheVariants.{Done, Asset, Account, Order, Refused}
use Rattle.wire_records.specs.declared.reply.Refusal.{Refusal}
use Rattle.wire_records.proofs.Readings.{reading_unique}
use Rattle.flow_orders.specs.Outcomes.{Outcome, Cleared, Skipped, IsAdmissibleOutcome}
use Rattle.market_rules.specs.Market.{Market}
use Rattle.market_rules.specs.Step.{ServesRead, refusal_of}
use Rattle.journal_records.specs.Replies.{EncodesAnswer}
use Rattle.journal_records.proofs.Encoded.{answer_unique}
use Rattle.market_rules.specs.Journal.{Step}
use Rattle.market_rules.proofs.Versions.{step_version}
use Rattle.batch_audit.specs.Legal.{IsLegalPair}
use Rattle.pair_text.specs.Texts.{◌then◌}
use Rattle.pair_text.proofs.Joining.{joined}
use Rattle.batch_report.specs.Reports.{Tells, IsReport}
use Rattle.batch_report.specs.Private.{told_text, IsAnswered}

-- the answer is Done
abbrev says_done : Answer Outcome → Type 0
says_done (Plain Done) = Unit {0}
says_done (Plain (Asset asset)) = ⊥
says_done (Plain (Account account)) = ⊥
says_done (Plain (Order order)) = ⊥
says_done (Plain (Refused refusal)) = ⊥
says_done (Batch number outcome) = ⊥

abbrev says_order : Answer Outcome → Type 0
says_order (Plain Done) = ⊥
says_order (Plain (Asset asset)) = ⊥
says_order (Plain (Account account)) = ⊥
says_order (Plain (Order order)) = Unit {0}
says_order (Plain (Refused refusal)) = ⊥
says_order (Batch number outcome) = ⊥

-- Done is no refusal
pub done_plain : (refusal : Refusal) → ◌≡◌ {A = Answer Outcome} (Plain Done) (Plain (Refused refusal)) → ⊥
done_plain refusal same = subst says_done same tt

pub order_plain : (number : ℕ) (refusal : Refusal) → ◌≡◌ {A = Answer Outcome} (Plain (Order number)) (Plain (Refused refusal)) → ⊥
order_plain number refusal same = subst says_order same tt

-- the record of a command that isn't refused is read as it
read_command : (old new : Market) (asked : Record) (a : Answer Outcome) (command : Command) → ((refusal : Refusal) → ◌≡◌ {A = Answer Outcome} a (Plain (Refused refusal)) → ⊥) → Encodes command asked → Step IsReadAs IsAdmissibleOutcome old asked a new
    → IsReadAs new.version asked (Ok command)
read_command old new asked a command plain is step =
    subst (λ version. IsReadAs version asked (Ok command)) (sym (step_version IsAdmissibleOutcome IsReadAs old asked a new step)) (by_read step.read step.encoded step.served)
  where
    by_read : (read : Result Command BodyFault) → IsReadAs old.version asked read → ServesRead IsAdmissibleOutcome old read a new → IsReadAs old.version asked (Ok command)
    by_read (Ok other) encoded served = (encoded.0, is)
    by_read (Err why) encoded served = absurd (plain (refusal_of why) served.0)

-- the text of a command and its answer is what the record of the command and that answer tell
pub told_tells : (old new : Market) (asked : Record) (a : Answer Outcome) (command : Command) → Encodes command asked → Step IsReadAs IsAdmissibleOutcome old asked a new → Tells new asked a (told_text new.tickers command a)
told_tells old new asked (Plain Done) command is step = (command, read_command old new asked (Plain Done) command done_plain is step, refl)
told_tells old new asked (Plain (Asset asset)) command is step = refl
told_tells old new asked (Plain (Account account)) command is step = refl
told_tells old new asked (Plain (Order order)) command is step = (command, read_command old new asked (Plain (Order order)) command (order_plain order) is step, refl)
told_tells old new asked (Plain (Refused refusal)) command is step = refl
told_tells old new asked (Batch batch (Cleared c)) command is step = refl
told_tells old new asked (Batch batch (Skipped s)) command is step = refl

-- a record that is read as no command was answered by that refusal
pub refused_is : (old new : Market) (asked : Record) (a : Answer Outcome) (why : BodyFault) → Step IsReadAs IsAdmissibleOutcome old asked a new → IsReadAs new.version asked (Err why) → ◌≡◌ {A = Answer Outcome} a (Plain (Refused (refusal_of why)))
refused_is old new asked a why step seen = by_read step.read step.encoded step.served
  where
    before : IsReadAs old.version asked (Err why)
    before = subst (λ version. IsReadAs version asked (Err why)) (step_version IsAdmissibleOutcome IsReadAs old asked a new step) seen

    by_read : (read : Result Command BodyFault) → IsReadAs old.version asked read → ServesRead IsAdmissibleOutcome old read a new → ◌≡◌ {A = Answer Outcome} a (Plain (Refused (refusal_of why)))
    by_read (Ok command) encoded served = absurd (let both = reading_unique old.version asked (Ok command) (Err why) encoded before in cc)
    by_read (Err other) encoded served =
        let same : other ≡ why = (let both = reading_unique old.version asked (Err other) (Err why) encoded before in cc) in
        served.0 ∙ ap (λ fault. Plain (Refused (refusal_of fault))) same

-- the answer that a valid entry's second record encodes is that of its first
pub answered : (pair : Record × Record) (told : Record) (a : Answer Outcome) (new : Market) → told ≡ pair.1 → EncodesAnswer told a → (old : Market) × IsLegalPair old pair new → IsAnswered new pair.0 a
answered pair told a new told_is encoded made =
    let legal = made.1 in
    let same = answer_unique legal.answer a legal.encoded.fits encoded.fits (sym legal.encoded.encoded ∙ sym told_is ∙ encoded.encoded) in
    (made.0, subst (λ x. Step IsReadAs IsAdmissibleOutcome made.0 pair.0 x new) same legal.step)

-- what is reported of the answer, after the entry's number
pub reported : (market : Market) (number : ℕ) (pair : Record × Record) (a : Answer Outcome) (told old one two three : List ℕ) → EncodesAnswer pair.1 a → Tells market pair.0 a told
    → one ≡ old ++ decimal number → two ≡ one ++ codes " " → three ≡ two ++ told → (text : List ℕ) × IsReport market number pair text × (three ≡ old ++ text)
reported market number pair a told old one two three encoded tells first second third = (
  decimal number then codes " " then told,
  record { answer = a; told = told; encoded = encoded; tells = tells; numbered = refl },
  joined old (decimal number) (codes " " ++ told) one three first (joined one (codes " ") told two three second third),
)
