use Rattle.std.proofs.Common.{refl, ap, Err}
use Rattle.wire_records.specs.Commands.{Plain}
use Rattle.wire_records.specs.declared.reply.Reply.TheVariants.{Refused}
use Rattle.exchange_session.proofs.session.reply_to.Goals as goal

pub returns-in-Err-clause-step : goal.returns-in-Err-clause-step
returns-in-Err-clause-step c =
    let why = c.in-Err.ensures.fault in
    record { read = Err why.0; encoded = why.1; served = (ap (λ refusal. Plain (Refused refusal)) why.2, refl) }
