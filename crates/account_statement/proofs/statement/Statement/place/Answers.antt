use Rattle.std.proofs.Common.{ap, sym, ◌∙◌}
use Rattle.account_statement.proofs.Keeping.{own_more}
use Rattle.account_statement.proofs.statement.Statement.place.Goals as goal

pub invariant_of-self-2 : goal.invariant_of-self-2
invariant_of-self-2 c = record {
  one_each = c.self.invariant.one_each;
  own = own_more _ _ _ _ c.add.ensures.orders (ap (λ o. o.account) c.restore.ensures.value ∙ c.account.ensures ∙ c.requires.own ∙ ap (λ s. s.account) (sym c.self.view_is)) (rw c.in_ok-reserve_one.ensures.orders c.self.invariant.own);
}
