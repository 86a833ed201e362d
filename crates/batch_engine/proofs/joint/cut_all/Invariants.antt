use Rattle.std.proofs.Common.{◌≡◌, length, map, take, drop}
use Rattle.std.specs.Prelude.{All}
use Rattle.std.specs.List.{range_with_len}
use Rattle.weight_rows.specs.Rows.{IsPrice}
use Rattle.canonical_rule.specs.Attempts.{joint_price}
use Rattle.batch_engine.proofs.joint.cut_all.Given as goal

abbrev pub invariant-loop-asset : goal.invariant-loop-asset
invariant-loop-asset l =
    (take l.asset l.prices ≡ map (joint_price l.work.orders l.start l.fn.prices) (range_with_len 0 l.asset)) × (drop l.asset l.prices ≡ drop l.asset l.fn.prices) × (length l.prices ≡ length l.fn.prices) × All IsPrice l.prices
