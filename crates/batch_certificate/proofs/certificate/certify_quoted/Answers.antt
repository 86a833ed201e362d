use Rattle.std.proofs.Common.{◌≡◌, to_z, of_z, rules}
use mir.Syntax.{w128}
use Rattle.flow_orders.specs.Trades.{trades}
use Rattle.flow_orders.specs.Outcomes.{gap_of}
use Rattle.batch_certificate.proofs.Bounds.{bounded_where_settled, gap_is_bounded, optimal_within_gap}
use Rattle.batch_certificate.proofs.certificate.certify_quoted.Goals as goal

gap_is : (c : goal.After-measure-gap) → to_z w128 (of_z w128 c.measure-gap.result) ≡ gap_of c.args.prices (trades c.args.orders.now c.args.rates)
gap_is c = search rules

pub returns-clause-settled : goal.returns-clause-settled
returns-clause-settled c = bounded_where_settled c.args.orders.now c.args.prices c.args.rates c.requires.quoted.priced.each c.requires.one_each c.requires.roundings _ c.requires.left

pub returns-clause-bounded : goal.returns-clause-bounded
returns-clause-bounded c = gap_is_bounded c.args.orders.now c.args.prices c.args.rates c.requires.quoted.priced.each c.requires.one_each c.requires.roundings _ _ c.requires.quoted.priced.range c.requires.left (gap_is c)

pub returns-clause-optimal : goal.returns-clause-optimal
returns-clause-optimal c = optimal_within_gap c.args.orders.now c.args.prices c.args.rates c.requires.quoted.priced.each c.requires.one_each c.requires.roundings _ c.requires.quoted.priced.priced (gap_is c)
