-- How an entry is judged, by its reply and by what its record is read as.
use Rattle.std.proofs.Common.{◌≡◌, ◌↔◌, ◌<◌, ℕ, Bool, true, false, IsTrue, if◌then◌else◌, Result, Ok, Err, Option, Some, None, refl, sym, ap, subst, ◌∙◌}
use Rattle.std.specs.Prelude.{IfOk}
use Rattle.std.proofs.lemmas.Bool.{false≢true}
use Rattle.wire_records.specs.Records.{Record}
use Rattle.wire_records.specs.Commands.{Command, RunBatch, Answer, Plain}
use Rattle.wire_records.specs.Versions.{IsReadAs}
use Rattle.wire_records.specs.Views.{command_of}
use Rattle.wire_records.specs.declared.command.CommandView.{CommandView}
use Rattle.wire_records.specs.declared.command.CommandView.TheVariants as view
use Rattle.wire_records.specs.declared.command.BodyFault.{BodyFault}
use Rattle.wire_records.specs.declared.reply.Reply.{Reply}
use Rattle.wire_records.specs.declared.reply.Reply.TheVariants.{Refused}
use Rattle.wire_records.specs.declared.reply.Refusal.{Refusal}
use Rattle.wire_records.proofs.Readings.{reading_unique}
use Rattle.flow_orders.specs.Outcomes.{Outcome, IsAdmissibleOutcome}
use Rattle.journal_records.specs.Replies.{EncodesAnswer}
use Rattle.journal_records.proofs.Encoded.{answer_unique}
use Rattle.wire_records.specs.Limits.{limits_of}
use Rattle.market_rules.specs.Market.{Market}
use Rattle.market_rules.specs.Step.{NoOutcome, ServesPlain, FirstRefusal, Serves, ServesRead, refusal_of, after_batch}
use Rattle.market_rules.proofs.ByFirst.{Answers}
use Rattle.market_rules.specs.Journal.{Step}
use Rattle.market_core.specs.Expected.{IsExpected}
use Rattle.market_rules.proofs.LawProofs.{plain_by_any, plain_commands_have_one_answer, one_refusal}
use Rattle.market_rules.proofs.OneStep.{one_first}
use Rattle.batch_audit.specs.Legal.{IsLegalPair, IsIllegalPair}
use Rattle.batch_audit.specs.Judging.{IsAcceptedPlain, IsChangeOf, IsWeighed}
use Rattle.batch_audit.specs.Private.{IsReadWeighed, IsAnswerWeighed, IsOutcomeFor}
use Rattle.batch_outcome.specs.declared.outcome.Outcome as parts
use Rattle.batch_outcome.specs.Published.{outcome_of}
use Rattle.batch_audit.specs.declared.change.Change.{Change}
use Rattle.batch_audit.specs.declared.change.Change.TheVariants as change

-- ---- commands that hold no batch

-- equal answers have equal replies
pub same_plain : (r q : Reply) → ◌≡◌ {A = Answer Outcome} (Plain r) (Plain q) → r ≡ q
same_plain r q e = cc

-- a reply that is no refusal is that of an accepted command
no_first : (m n : Market) (c : Command) (reply : Reply) (first : Option Refusal) → FirstRefusal m c first → Answers NoOutcome m c first (Plain reply) n
    → ((refusal : Refusal) → ¬ (reply ≡ Refused refusal)) → FirstRefusal m c None
no_first m n c reply None refused answered accepts = refused
no_first m n c reply (Some refusal) refused answered accepts = absurd (accepts refusal (same_plain reply (Refused refusal) answered.0))

module _ (m : Market) (c : Command) (none : (budget : ℕ) → ¬ (c ≡ RunBatch budget)) (reply : Reply) (expected : IsExpected m c reply) where
  -- the expected reply is the one answer
  answer_is : (a : Answer Outcome) (n : Market) → Serves IsAdmissibleOutcome m c a n → a ≡ Plain reply
  answer_is a n serves = (plain_commands_have_one_answer m c a (Plain reply) n expected.0 none serves (plain_by_any IsAdmissibleOutcome m c (Plain reply) expected.0 expected.1)).0

  -- any other answer makes no step
  pub other_answer : (a : Answer Outcome) → ¬ (a ≡ Plain reply) → IsReadWeighed m (Ok c) a None
  other_answer a other = λ n serves. other (answer_is a n serves)

  -- the expected answer is got under any rule of batches
  right_answer : (a : Answer Outcome) → a ≡ Plain reply → Serves IsAdmissibleOutcome m c a expected.0
  right_answer a is = subst (λ x. Serves IsAdmissibleOutcome m c x expected.0) (sym is) (plain_by_any IsAdmissibleOutcome m c (Plain reply) expected.0 expected.1)

  -- if it is no refusal, the command makes its market
  pub accepted_answer : (seen : CommandView) → c ≡ command_of seen → (a : Answer Outcome) → a ≡ Plain reply → ((refusal : Refusal) → ¬ (reply ≡ Refused refusal))
      → IsReadWeighed m (Ok c) a (Some (change.Command seen))
  accepted_answer seen shows a is accepts =
      let accepted = no_first m expected.0 c reply expected.1.first expected.1.refused expected.1.answered accepts in
      (expected.0, right_answer a is, subst (IsAcceptedPlain m (Ok c)) shows (record { is_read = refl; no_batch = none; accepted = accepted }))

  -- a refusal changes nothing
  pub refused_answer : (seen : CommandView) → c ≡ command_of seen → (a : Answer Outcome) (refusal : Refusal) → a ≡ Plain reply → reply ≡ Refused refusal
      → IsReadWeighed m (Ok c) a (Some (change.Refused seen))
  refused_answer seen shows a refusal is refuses =
      let here = right_answer (Plain (Refused refusal)) (ap (λ r. Plain r) (sym refuses)) in
      (expected.0, right_answer a is, (ap Ok shows, (one_refusal m c refusal (Plain (Refused refusal)) expected.0 expected.0 here here).1))

-- ---- records and entries

-- what a record is read as determines what the record changes
pub record_weighed : (found : Option Change) (old : Market) (asked : Record) (read : Result Command BodyFault) (a : Answer Outcome) → IsReadAs old.version asked read
    → IsReadWeighed old read a found → IsAnswerWeighed old asked a found
record_weighed (Some x) old asked read a encoded weighed = (weighed.0, record { read = read; encoded = encoded; served = weighed.1 }, weighed.2)
record_weighed None old asked read a encoded none = λ made step.
    none made (subst (λ r. ServesRead IsAdmissibleOutcome old r a made) (reading_unique old.version asked step.read read step.encoded encoded) step.served)

-- the answer that the other record encodes determines what the entry changes
pub pair_weighed : (found : Option Change) (old : Market) (pair : Record × Record) (a : Answer Outcome) → EncodesAnswer pair.1 a
    → IsAnswerWeighed old pair.0 a found → IsWeighed old pair found
pair_weighed (Some x) old pair a encoded weighed = record {
  new = weighed.0;
  legal = record { answer = a; encoded = encoded; step = weighed.1 };
  changes = weighed.2;
}
pair_weighed None old pair a encoded none = λ made legal.
    let same = answer_unique legal.answer a legal.encoded.fits encoded.fits (sym legal.encoded.encoded ∙ encoded.encoded) in
    none made (subst (λ x. Step IsReadAs IsAdmissibleOutcome old pair.0 x made) same legal.step)

-- a record that encodes no answer makes no valid entry
pub no_answer : (old : Market) (pair : Record × Record) → ((a : Answer Outcome) → ¬ EncodesAnswer pair.1 a) → IsIllegalPair old pair
no_answer old pair none = λ made legal. none legal.answer legal.encoded

-- ---- refusals

-- a record that can't be served gets its refusal
pub fault_weighed : (test : Bool) (old : Market) (why : BodyFault) (a : Answer Outcome) (refusal : Refusal) → refusal ≡ refusal_of why
    → IsTrue test ↔ (a ≡ Plain (Refused refusal)) → IsReadWeighed old (Err why) a (if test then Some change.Nothing else None)
fault_weighed true old why a refusal is tests = (old, (tests.0 refl ∙ ap (λ r. Plain (Refused r)) is, refl), ((why, refl), refl))
fault_weighed false old why a refusal is tests = λ made gives. false≢true (tests.1 (gives.0 ∙ ap (λ r. Plain (Refused r)) (sym is)))

-- a batch that is refused gets its refusal
pub refused_weighed : (test : Bool) (old : Market) (budget : ℕ) (a : Answer Outcome) (refusal : Refusal) → FirstRefusal old (RunBatch budget) (Some refusal)
    → IsTrue test ↔ (a ≡ Plain (Refused refusal)) → IsReadWeighed old (Ok (RunBatch budget)) a (if test then Some (change.Refused (view.RunBatch budget)) else None)
refused_weighed true old budget a refusal first tests = (old, record { first = Some refusal; refused = first; answered = (tests.0 refl, refl) }, (refl, refl))
refused_weighed false old budget a refusal first tests = λ made serves.
    let refuses : Serves IsAdmissibleOutcome old (RunBatch budget) (Plain (Refused refusal)) old = record { first = Some refusal; refused = first; answered = (refl, refl) } in
    false≢true (tests.1 (one_refusal old (RunBatch budget) refusal a old made refuses serves).0)

-- ---- batches that are due

-- what is settled for the answer
pub batch_weighed : (old : Market) (budget : ℕ) (a : Answer Outcome) (o : parts.Outcome) → FirstRefusal old (RunBatch budget) None → old.batches < (limits_of old.version).batches
    → IsOutcomeFor old budget a (Some o) → IsReadWeighed old (Ok (RunBatch budget)) a (Some (change.Batch o))
batch_weighed old budget a o first more found = (
  after_batch old (outcome_of old.orders o),
  record { first = None; refused = first; answered = found.1 },
  record { asks = (budget, refl); right = found.0; more = more; made = refl },
)

-- if there is nothing to settle, the answer is no admissible outcome
pub batch_not_due : (old : Market) (budget : ℕ) (a : Answer Outcome) → FirstRefusal old (RunBatch budget) None → IsOutcomeFor old budget a None
    → IsReadWeighed old (Ok (RunBatch budget)) a None
batch_not_due old budget a first none = λ made serves.
    none made (subst (λ f. Answers IsAdmissibleOutcome old (RunBatch budget) f a made) (one_first old (RunBatch budget) serves.first None serves.refused first) serves.answered)

-- ---- steps that are made

module _ (old : Market) (pair : Record × Record) where
  -- nothing is changed
  pub nothing_made : IsChangeOf old pair change.Nothing → IsLegalPair old pair old
  nothing_made is = subst (IsLegalPair old pair) is.changes.1 is.legal

  -- a refusal is answered
  pub refused_made : (seen : CommandView) → IsChangeOf old pair (change.Refused seen) → IsLegalPair old pair old
  refused_made seen is = subst (IsLegalPair old pair) is.changes.1 is.legal

  -- a batch is settled
  pub batch_made : (o : parts.Outcome) → IsChangeOf old pair (change.Batch o) → IsLegalPair old pair (after_batch old (outcome_of old.orders o))
  batch_made o is = subst (IsLegalPair old pair) is.changes.made is.legal

  -- a command is served
  pub command_made : (seen : CommandView) → IsChangeOf old pair (change.Command seen) → (told : Reply) (new : Market)
      → ServesPlain old (command_of seen) (Plain told) new → IsLegalPair old pair new
  command_made seen is told new serves =
      let c = command_of seen in
      let there = subst (λ r. ServesRead IsAdmissibleOutcome old r is.legal.answer is.new) is.changes.is_read is.legal.step.served in
      let here = plain_by_any IsAdmissibleOutcome old c (Plain told) new serves in
      subst (IsLegalPair old pair) (plain_commands_have_one_answer old c is.legal.answer (Plain told) is.new new is.changes.no_batch there here).1 is.legal

-- ---- the command of an entry

ok_is : (c d : Command) → ◌≡◌ {A = Result Command BodyFault} (Ok c) (Ok d) → c ≡ d
ok_is c d same = cc

ok_is_no_err : (c : Command) (why : BodyFault) → ◌≡◌ {A = Result Command BodyFault} (Ok c) (Err why) → ⊥
ok_is_no_err c why same = cc

-- what is read as no command is no command for a batch either
pub is_no_command : (read : Result Command BodyFault) → (why : BodyFault) × (read ≡ Err why) → (command : Command) → read ≡ Ok command → (budget : ℕ) × (command ≡ RunBatch budget)
is_no_command read (why, faulty) command is = absurd (ok_is_no_err command why (sym is ∙ faulty))

-- what is read as a command for a batch is that command
pub is_batch_command : (read : Result Command BodyFault) → (budget : ℕ) × (read ≡ Ok (RunBatch budget)) → (command : Command) → read ≡ Ok command → (budget : ℕ) × (command ≡ RunBatch budget)
is_batch_command read (budget, asks) command is = (budget, ok_is command (RunBatch budget) (sym is ∙ asks))

-- ---- answers of the code

-- what follows of each value holds of an answer
pub on_ok : {T E : Type 0} {P Q : T → Type 0} → ((x : T) → P x → Q x) → (result : Result T E) → IfOk result P → IfOk result Q
on_ok follows (Ok x) holds = follows x holds
on_ok follows (Err e) holds = tt
