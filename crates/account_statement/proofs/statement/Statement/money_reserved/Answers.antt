use Rattle.std.proofs.Common.{◌≡◌, ap, ◌∙◌}
use Rattle.std.specs.Prelude.{unsigned_abs}
use Rattle.std.specs.List.{sum_by}
use mir.Syntax.{w128}
use Rattle.std.proofs.lemmas.Int.{to_z-of_z}
use Rattle.flow_orders.specs.Orders.{money_need}
use Rattle.account_statement.proofs.Keeping.{own_need}
use Rattle.account_statement.proofs.statement.Statement.money_reserved.Goals as goal

pub returns : goal.returns
returns c =
    let value : c.unsigned_abs.result ≡ unsigned_abs c.money_needed.result = rw (to_z-of_z w128 _ (record { sfits = c.money_needed.type_inv })) at c.unsigned_abs.ensures.value in
    value ∙ ap unsigned_abs (c.money_needed.ensures.value ∙ own_need money_need c.self.inside.account c.self.inside.book.orders c.self.invariant.own) ∙ ap (λ s. sum_by money_need s.orders) c.self.view_is
