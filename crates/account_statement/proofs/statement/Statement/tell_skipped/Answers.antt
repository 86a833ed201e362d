use Rattle.account_statement.proofs.Keeping.{own_filter}
use Rattle.account_statement.proofs.statement.Statement.tell_skipped.Goals as goal

pub invariant_of-self : goal.invariant_of-self
invariant_of-self c = record { one_each = c.self.invariant.one_each; own = own_filter _ _ _ _ c.end.ensures.orders c.self.invariant.own }
