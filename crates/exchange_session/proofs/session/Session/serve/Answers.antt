use Rattle.std.proofs.Common.{refl}
use Rattle.wire_records.specs.Commands.{Plain}
use Rattle.exchange_session.proofs.AnswersFit.{plain_pair_fits}
use Rattle.exchange_session.proofs.session.Session.serve.Goals as goal

pub returns-in-Plain-clause-served : goal.returns-in-Plain-clause-served
returns-in-Plain-clause-served c = (
  _,
  record {
    answer = Plain c.in-Plain.reply;
    step = rw (c.in-Plain.is, c.self.view_is) at c.in_ok-reply.ensures.step;
    fits = λ next. plain_pair_fits c.args.asked.now c.in-Plain.reply c.requires.short c.write_plain.ensures.fits;
    encoded = refl;
  },
  rw c.reserve_plain.ensures.stays at c.write_plain.ensures.written,
)
