use Rattle.order_text.proofs.fields.small_at.Goals as goal

pub returns-in_err-number-clause-none : goal.returns-in_err-number-clause-none
returns-in_err-number-clause-none c = rw c.from_residual.ensures (λ number has. c.in_err-number.ensures.none number (has.0, has.1, has.2.0))
