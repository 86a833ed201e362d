use Rattle.order_text.proofs.asking.money.Goals as goal

pub returns-in_err-account-clause-none : goal.returns-in_err-account-clause-none
returns-in_err-account-clause-none c = rw c.from_residual.ensures (λ account ticks has. c.in_err-account.ensures.none account has.0)

pub returns-in_err-ticks-clause-none : goal.returns-in_err-ticks-clause-none
returns-in_err-ticks-clause-none c = rw c.from_residual-in_err-ticks.ensures (λ account ticks has. c.in_err-ticks.ensures.none ticks has.1)
