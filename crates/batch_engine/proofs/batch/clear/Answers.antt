use Rattle.batch_outcome.specs.declared.outcome.Outcome.TheVariants as variants
use Rattle.batch_engine.proofs.CanonicalClearing.{on_ok, single_where, wide_where, outcome_is_canonical, outcome_is_admissible, outcome_is_near, outcome_has_rates, outcome_is_certified}
use Rattle.batch_engine.proofs.batch.clear.Goals as goal

-- if each order names one asset
pub clear_single-requires-clause-single : goal.clear_single-requires-clause-single
clear_single-requires-clause-single c = single_where c.args.orders.now c.are_single.result c.are_single.ensures c.if-are_single.true

pub returns-then-are_single-clause-own : goal.returns-then-are_single-clause-own
returns-then-are_single-clause-own c =
    outcome_is_canonical c.args.search c.requires.some_parts c.args.orders.now c.args.start.now c.args.budget c.requires.range c.requires.budget.1 (variants.Cleared c.in_ok-clear_single.field-0) (c.in_ok-clear_single.ensures.cleared c.args.budget c.requires.budget.1)

pub returns-then-are_single-clause-right : goal.returns-then-are_single-clause-right
returns-then-are_single-clause-right c =
    outcome_is_admissible c.args.search c.requires.some_parts c.args.orders.now c.args.start.now c.args.budget c.requires.range c.requires.budget.1 (variants.Cleared c.in_ok-clear_single.field-0) (c.in_ok-clear_single.ensures.cleared c.args.budget c.requires.budget.1)

pub returns-then-are_single-clause-near : goal.returns-then-are_single-clause-near
returns-then-are_single-clause-near c =
    outcome_is_near c.args.search c.requires.some_parts c.args.orders.now c.args.start.now c.args.budget c.requires.range c.requires.budget.1 (variants.Cleared c.in_ok-clear_single.field-0) (c.in_ok-clear_single.ensures.cleared c.args.budget c.requires.budget.1)

pub returns-then-are_single-clause-one_rate_each : goal.returns-then-are_single-clause-one_rate_each
returns-then-are_single-clause-one_rate_each c =
    outcome_has_rates c.args.search c.requires.some_parts c.args.orders.now c.args.start.now c.args.budget c.requires.range c.requires.budget.1 (variants.Cleared c.in_ok-clear_single.field-0) (c.in_ok-clear_single.ensures.cleared c.args.budget c.requires.budget.1)

pub returns-then-are_single-clause-certified : goal.returns-then-are_single-clause-certified
returns-then-are_single-clause-certified c =
    outcome_is_certified c.args.search c.requires.some_parts c.args.orders.now c.args.start.now c.args.budget c.requires.range c.requires.budget.1 (variants.Cleared c.in_ok-clear_single.field-0) (c.in_ok-clear_single.ensures.cleared c.args.budget c.requires.budget.1)

-- if some order names two or more
pub clear_wide-requires-clause-wide : goal.clear_wide-requires-clause-wide
clear_wide-requires-clause-wide c = wide_where c.args.orders.now c.are_single.result c.are_single.ensures c.if-are_single.false

pub returns-clause-own : goal.returns-clause-own
returns-clause-own c = on_ok (outcome_is_canonical c.args.search c.requires.some_parts c.args.orders.now c.args.start.now c.args.budget c.requires.range c.requires.budget.1) c.clear_wide.result c.clear_wide.ensures.own

pub returns-clause-right : goal.returns-clause-right
returns-clause-right c = on_ok (outcome_is_admissible c.args.search c.requires.some_parts c.args.orders.now c.args.start.now c.args.budget c.requires.range c.requires.budget.1) c.clear_wide.result c.clear_wide.ensures.own

pub returns-clause-near : goal.returns-clause-near
returns-clause-near c = λ single.
    on_ok (λ o from. outcome_is_near c.args.search c.requires.some_parts c.args.orders.now c.args.start.now c.args.budget c.requires.range c.requires.budget.1 o from single) c.clear_wide.result c.clear_wide.ensures.own

pub returns-clause-one_rate_each : goal.returns-clause-one_rate_each
returns-clause-one_rate_each c = on_ok (outcome_has_rates c.args.search c.requires.some_parts c.args.orders.now c.args.start.now c.args.budget c.requires.range c.requires.budget.1) c.clear_wide.result c.clear_wide.ensures.own

pub returns-clause-certified : goal.returns-clause-certified
returns-clause-certified c = on_ok (outcome_is_certified c.args.search c.requires.some_parts c.args.orders.now c.args.start.now c.args.budget c.requires.range c.requires.budget.1) c.clear_wide.result c.clear_wide.ensures.own
