use Rattle.account_statement.proofs.Keeping.{own_filter, own_staying}
use Rattle.account_statement.proofs.statement.Statement.fill.Goals as goal

pub invariant_of-self : goal.invariant_of-self
invariant_of-self c = record { one_each = c.self.invariant.one_each; own = own_filter _ _ _ _ c.end.ensures.orders (own_staying _ _ _ _ c.fill.ensures.orders c.self.invariant.own) }
