use Rattle.std.proofs.Common.{◌≡◌, ◌++◌, get_or, ap, ◌∙◌, arith}
use mir.Syntax.{w128}
use Rattle.std.specs.List.{flat_map}
use Rattle.std.proofs.lemmas.Int.{to_z-of_z}
use Rattle.std.proofs.lemmas.List.{get_or_default, take_all}
use Rattle.list_sums.specs.Sums.{int_sum_by}
use Rattle.flow_orders.specs.Trades.{trades, paid}
use Rattle.statement_rules.specs.Statements.{cost_line}
use Rattle.batch_certificate.proofs.Sums.{IsTurn, length-trades}
use Rattle.account_statement.proofs.Costs.{one_more_cost}
use Rattle.account_statement.proofs.batch.put_costs.Goals as goal

pub loop-place-preserved : goal.loop-place-preserved
loop-place-preserved c =
    let rate = get_or c.args.rates.now c.loop-place.place 0 in
    let turn : IsTurn c.args.orders.now c.args.rates.now c.loop-place.place c.index-orders-place.result rate = record { count = c.requires.one_each; inside = c.loop-place-test.true; order = c.index-orders-place.is; rate = get_or_default c.args.rates.now c.loop-place.place 0 rate (omega (arith, c.loop-place-test.true, c.requires.one_each)) } in
    let line : c.put_cost.new.out.text ≡ c.loop-place.out.text ++ cost_line c.args.prices.now (record { order = c.index-orders-place.result; traded = rate }) =
    rw (← c.cost_of-cost.ensures.value, ← c.number.ensures.value) (rw (to_z-of_z w128 _ (record { sfits = c.cost_of-cost.type_inv })) at c.in_ok-put_cost.ensures.put) in (
      c.in_ok-put_cost.ensures.before ∙ c.loop-place.invariant.0,
      (one_more_cost _ _ _ _ _ _ _ _ _ _ _ turn c.requires.few c.loop-place.invariant.1 line c.cost_of-cost.ensures.value c.cost_of-cost.ensures.small).next,
    )

pub returns-clause-put : goal.returns-clause-put
returns-clause-put c =
    c.loop-place.invariant.1.text
    ∙ ap (λ ts. c.args.out.now.text ++ flat_map (cost_line c.args.prices.now) ts) (take_all c.loop-place.place (trades c.args.orders.now c.args.rates.now) (omega (arith, c.loop-place-test.false, length-trades c.args.orders.now c.args.rates.now c.requires.one_each)))

pub returns-clause-cost : goal.returns-clause-cost
returns-clause-cost c =
    c.loop-place.invariant.1.sum_is
    ∙ ap (λ ts. int_sum_by (paid c.args.prices.now) ts) (take_all c.loop-place.place (trades c.args.orders.now c.args.rates.now) (omega (arith, c.loop-place-test.false, length-trades c.args.orders.now c.args.rates.now c.requires.one_each)))
