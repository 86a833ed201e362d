use Rattle.std.proofs.Common.{◌≡◌, ◌^◌, map, take}
use Rattle.joint_rounds.proofs.searching.half_of.Given as goal

abbrev pub invariant-loop-order : goal.invariant-loop-order
invariant-loop-order l = l.shares.items ≡ map (λ o. 2 ^ 31) (take l._order-index l.orders)
