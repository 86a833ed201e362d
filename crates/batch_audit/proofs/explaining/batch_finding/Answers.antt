use Rattle.wire_records.specs.declared.reply.Reply.TheVariants.{Refused}
use Rattle.journal_records.specs.Views.{answer_of}
use Rattle.batch_audit.proofs.Found.{gets_refusal, reply_found}
use Rattle.batch_audit.proofs.explaining.batch_finding.Goals as goal

pub returns-in-Err-clause-found : goal.returns-in-Err-clause-found
returns-in-Err-clause-found c = λ pair read encoded.
    reply_found c.args.market.now pair (answer_of c.args.seen.now) encoded (Refused c.in-Err.refusal) _ (gets_refusal c.args.market.now pair.0 c.args.budget c.in-Err.refusal read c.in-Err.ensures.first)
    c.reply_finding.ensures
