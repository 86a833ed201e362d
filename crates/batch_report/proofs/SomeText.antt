-- Each valid entry has its text.
use Rattle.std.proofs.Common.{◌≡◌, ℕ, List, ◌++◌, codes, decimal, Result, Ok, Err, refl, sym, subst}
use Rattle.wire_records.specs.Records.{Record}
use Rattle.wire_records.specs.Commands.{Command, Answer, Plain, Batch}
use Rattle.wire_records.specs.Versions.{IsReadAs}
use Rattle.wire_records.specs.declared.reply.Reply.TheVariants as reply
use Rattle.wire_records.specs.declared.reply.Refusal.{Refusal}
use Rattle.wire_records.specs.declared.command.BodyFault.{BodyFault}
use Rattle.flow_orders.specs.Outcomes.{Outcome, IsAdmissibleOutcome, Cleared, Skipped}
use Rattle.market_rules.specs.Market.{Market}
use Rattle.market_rules.specs.Step.{ServesRead, refusal_of}
use Rattle.market_rules.specs.Journal.{Step}
use Rattle.market_rules.proofs.Versions.{step_version}
use Rattle.batch_audit.specs.Legal.{IsLegalPair}
use Rattle.batch_report.specs.Reports.{TellsCommand, Tells, IsReport}
use Rattle.batch_report.proofs.Answered.{done_plain, order_plain}

-- what a record is read as before a step, it is read as after it
read_after : (old new : Market) (asked : Record) (a : Answer Outcome) (read : Result Command BodyFault) → Step IsReadAs IsAdmissibleOutcome old asked a new → IsReadAs old.version asked read → IsReadAs new.version asked read
read_after old new asked a read step seen = subst (λ version. IsReadAs version asked read) (sym (step_version IsAdmissibleOutcome IsReadAs old asked a new step)) seen

-- the line of a record that isn't refused, by what it is read as
tells_command : (order : ℕ) (a : Answer Outcome) → ((refusal : Refusal) → ◌≡◌ {A = Answer Outcome} a (Plain (reply.Refused refusal)) → ⊥) → (old new : Market) (asked : Record) (read : Result Command BodyFault) → IsReadAs old.version asked read → ServesRead IsAdmissibleOutcome old read a new
    → Step IsReadAs IsAdmissibleOutcome old asked a new → (text : List ℕ) × TellsCommand new asked order text
tells_command order a plain old new asked (Ok command) read served step = (_, (command, read_after old new asked a (Ok command) step read, refl))
tells_command order a plain old new asked (Err why) read served step = absurd (plain (refusal_of why) served.0)

-- a step has its text
step_tells : (old new : Market) (asked : Record) (a : Answer Outcome) → Step IsReadAs IsAdmissibleOutcome old asked a new → (text : List ℕ) × Tells new asked a text
step_tells old new asked (Plain reply.Done) step = tells_command 0 (Plain reply.Done) done_plain old new asked step.read step.encoded step.served step
step_tells old new asked (Plain (reply.Asset asset)) step = (_, refl)
step_tells old new asked (Plain (reply.Account account)) step = (_, refl)
step_tells old new asked (Plain (reply.Order order)) step = tells_command order (Plain (reply.Order order)) (order_plain order) old new asked step.read step.encoded step.served step
step_tells old new asked (Plain (reply.Refused refusal)) step = (_, refl)
step_tells old new asked (Batch batch (Cleared c)) step = (_, refl)
step_tells old new asked (Batch batch (Skipped s)) step = (_, refl)

pub some_text : (old new : Market) (number : ℕ) (pair : Record × Record) → IsLegalPair old pair new → (text : List ℕ) × IsReport new number pair text
some_text old new number pair legal =
    let tells = step_tells old new pair.0 legal.answer legal.step in
    (decimal number ++ (codes " " ++ tells.0), record { answer = legal.answer; told = tells.0; encoded = legal.encoded; tells = tells.1; numbered = refl })
