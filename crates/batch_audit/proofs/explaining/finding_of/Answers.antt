use Rattle.std.proofs.Common.{sym, subst, Ok, Err}
use Rattle.wire_records.specs.Commands.{RunBatch}
use Rattle.wire_records.specs.Versions.{IsReadAs}
use Rattle.wire_records.specs.Views.{command_of}
use Rattle.wire_records.specs.declared.reply.Reply.TheVariants.{Refused}
use Rattle.journal_records.specs.Views.{answer_of}
use Rattle.batch_audit.proofs.Found.{gets_fault, reply_found}
use Rattle.batch_audit.proofs.explaining.finding_of.Goals as goal

pub returns-in_ok-batch_finding-in-Ok-RunBatch-clause-found : goal.returns-in_ok-batch_finding-in-Ok-RunBatch-clause-found
returns-in_ok-batch_finding-in-Ok-RunBatch-clause-found c = λ pair asked encoded.
    let read = rw c.in-Ok-RunBatch.field-0-is at c.in-Ok-RunBatch.ensures.command in
    c.in_ok-batch_finding-in-Ok-RunBatch.ensures.found pair (subst (λ r. IsReadAs c.args.market.now.version r (Ok (RunBatch c.in-Ok-RunBatch.budget))) (sym asked) read) encoded

pub returns-in-Ok-clause-found : goal.returns-in-Ok-clause-found
returns-in-Ok-clause-found c =
    let read : IsReadAs c.args.market.now.version c.args.asked.now (Ok (command_of c.in-Ok.command)) = c.in-Ok.ensures.command in
    λ pair asked encoded. c.plain_finding.ensures pair (subst (λ r. IsReadAs c.args.market.now.version r (Ok (command_of c.in-Ok.command))) (sym asked) read) encoded

pub returns-in-Err-clause-found : goal.returns-in-Err-clause-found
returns-in-Err-clause-found c = λ pair asked encoded.
    let fault = c.in-Err.ensures.fault in
    reply_found c.args.market.now pair (answer_of c.args.seen.now) encoded (Refused c.in-Err.refusal) _
    (gets_fault c.args.market.now pair.0 fault.0 c.in-Err.refusal (subst (λ r. IsReadAs c.args.market.now.version r (Err fault.0)) (sym asked) fault.1) fault.2)
    c.reply_finding.ensures
