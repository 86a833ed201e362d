use Rattle.batch_certificate.proofs.Rates.{rate_is_small}
use Rattle.batch_certificate.proofs.trade.rounding_loss.Goals as goal

pub returns-then-is_rounded-clause-rate : goal.returns-then-is_rounded-clause-rate
returns-then-is_rounded-clause-rate c =
    let rounding = rw c.curve-curve.ensures.value at (c.is_rounded.ensures.answer.0 c.if-is_rounded.true) in
    rate_is_small _ c.curve-curve.ensures.order.terms _ _ rounding
