use Rattle.std.proofs.Common.{◌∙◌, ap, sym, subst, length}
use Rattle.std.specs.Prelude.{All, ◌^◌}
use Rattle.demand_curve.specs.Demand.{IsWithin}
use Rattle.canonical_rule.proofs.Attempting.{joint_range, joint_count}
use Rattle.batch_engine.proofs.joint.try_second.Goals as goal

pub attempt-requires-clause-start : goal.attempt-requires-clause-start
attempt-requires-clause-start c = subst (All (IsWithin (2 ^ 60))) (sym c.in_ok-set_joint_prices.ensures.prices) (joint_range c.args.orders.now c.args.start.now c.requires.range)

pub set_prices-requires-clause-count : goal.set_prices-requires-clause-count
set_prices-requires-clause-count c = sym (c.attempt.ensures.count ∙ ap length c.in_ok-set_joint_prices.ensures.prices ∙ joint_count c.args.orders.now c.args.start.now)
