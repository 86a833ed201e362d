use Rattle.std.proofs.Common.{subst}
use Rattle.statement_rules.specs.Views.{Clears, event_if}
use Rattle.account_statement.specs.Telling.{Statement}
use Rattle.account_statement.specs.Private.{fills_for, Tells}
use Rattle.account_statement.proofs.Settled.{told_cleared}
use Rattle.account_statement.proofs.statement.Statement.tell_cleared.Goals as goal

pub returns-clause-told : goal.returns-clause-told
returns-clause-told c =
    let k = c.args.view.now.clearing in
    subst (λ (s : Statement). Tells (event_if s.is_open (Clears c.args.view.now.batch k.prices (fills_for k.fills s.orders))) s c.settle.new.self c.args.out.now.text c.own_part.new.out.text) c.self.view_is
    (told_cleared _ c.settle.new.self c.args.view.now.batch k c.args.out.now.text c.put_cleared.new.out.text c.own_part.new.out.text c.if-not-self.false c.settle.ensures.account
    (rw c.orders.follows.holds-at-none.orders at c.settle.ensures.after)
    (rw c.batch.ensures at c.in_ok-put_cleared.ensures.put)
    (rw c.orders.ensures.value at c.in_ok-part.ensures.put))
