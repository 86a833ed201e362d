use Rattle.std.proofs.Common.{◌≡◌, ◌-ℤ◌, ◌+ℤ◌, length, ap, sym, subst, ◌∙◌}
use mir.Syntax.{w128}
use Rattle.std.proofs.lemmas.Int.{to_z-of_z}
use Rattle.flow_accounts.specs.Lawful.{IsUnitBalance}
use Rattle.flow_orders.specs.Residuals.{residual_in}
use Rattle.account_statement.proofs.Settled.{brought_count, brought_fits, settled}
use Rattle.account_statement.proofs.statement.Statement.settle.Goals as goal

pub receive-requires-clause-places : goal.receive-requires-clause-places
receive-requires-clause-places c =
    ap length c.as_slice.ensures.value ∙ brought_count _ _ _ c.requires.brought ∙ sym c.requires.may.assets ∙ sym (ap (λ s. length s.tickers) c.take_money.ensures)

pub receive-requires-clause-fits : goal.receive-requires-clause-fits
receive-requires-clause-fits c = λ asset inside.
    let money : c.take_money.new.self ≡ record (c.args.self.now) { money = c.args.self.now.money -ℤ c.args.part.now.cost } = rw (to_z-of_z w128 _ (record { sfits = c.cost.type_inv }), c.cost.ensures) at c.take_money.ensures in
    subst IsUnitBalance (ap (λ l. residual_in c.take_money.new.self.units asset +ℤ residual_in l asset) (sym c.as_slice.ensures.value))
    (brought_fits c.args.view.now.clearing c.args.self.now c.take_money.new.self c.args.part.now.cost c.args.part.now.brought.items c.requires.may c.requires.brought money asset inside)

pub returns-clause-after : goal.returns-clause-after
returns-clause-after c =
    let money : c.take_money.new.self ≡ record (c.args.self.now) { money = c.args.self.now.money -ℤ c.args.part.now.cost } = rw (to_z-of_z w128 _ (record { sfits = c.cost.type_inv }), c.cost.ensures) at c.take_money.ensures in
    settled c.args.view.now.batch c.args.view.now.clearing c.args.self.now c.take_money.new.self c.receive.new.self c.fill.new.self c.args.part.now.cost c.args.part.now.brought.items c.args.part.now.rates.items
    c.requires.may.assets c.requires.cost c.requires.brought c.requires.rates money c.receive.ensures.others
    (λ asset inside. c.receive.ensures.each asset inside ∙ ap (λ l. residual_in c.take_money.new.self.units asset +ℤ residual_in l asset) c.as_slice.ensures.value)
    (rw (c.batch.ensures, c.as_slice-2.ensures.value) at c.fill.ensures)
