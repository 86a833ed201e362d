use Rattle.account_statement.proofs.Keeping.{own_cancel}
use Rattle.account_statement.proofs.statement.Statement.cancel.Goals as goal

pub invariant_of-self : goal.invariant_of-self
invariant_of-self c = record { one_each = c.self.invariant.one_each; own = own_cancel c.self.inside.account c.args.number c.cancel-there.result _ _ c.cancel-there.ensures.stays c.cancel-there.ensures.orders c.self.invariant.own }
