use Rattle.order_text.proofs.asking.limits_of.Goals as goal

pub returns-in_err-account-clause-none : goal.returns-in_err-account-clause-none
returns-in_err-account-clause-none c = rw c.from_residual.ensures (λ account low high rate cap has. c.in_err-account.ensures.none account has.0)

pub returns-in_err-low-clause-none : goal.returns-in_err-low-clause-none
returns-in_err-low-clause-none c = rw c.from_residual-in_err-low.ensures (λ account low high rate cap has. c.in_err-low.ensures.none low has.1)

pub returns-in_err-high-clause-none : goal.returns-in_err-high-clause-none
returns-in_err-high-clause-none c = rw c.from_residual-in_err-high.ensures (λ account low high rate cap has. c.in_err-high.ensures.none high has.2)

pub returns-in_err-rate-clause-none : goal.returns-in_err-rate-clause-none
returns-in_err-rate-clause-none c = rw c.from_residual-in_err-rate.ensures (λ account low high rate cap has. c.in_err-rate.ensures.none rate has.3)

pub returns-in_err-cap-clause-none : goal.returns-in_err-cap-clause-none
returns-in_err-cap-clause-none c = rw c.from_residual-in_err-cap.ensures (λ account low high rate cap has. c.in_err-cap.ensures.none cap has.4)
