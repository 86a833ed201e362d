use Rattle.order_text.proofs.asking.units.Goals as goal

pub returns-in_err-account-clause-none : goal.returns-in_err-account-clause-none
returns-in_err-account-clause-none c = rw c.from_residual.ensures (λ account asset units has. c.in_err-account.ensures.none account has.0)

pub returns-in_err-asset-clause-none : goal.returns-in_err-asset-clause-none
returns-in_err-asset-clause-none c = rw c.from_residual-in_err-asset.ensures (λ account asset units has. c.in_err-asset.ensures.none asset has.1)

pub returns-in_err-units-clause-none : goal.returns-in_err-units-clause-none
returns-in_err-units-clause-none c = rw c.from_residual-in_err-units.ensures (λ account asset units has. c.in_err-units.ensures.none units has.2)
