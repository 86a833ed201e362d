use Rattle.std.proofs.Common.{◌≡◌, ◌+◌}
use Rattle.std.specs.Prelude.{vec_capacity}
use Rattle.desk_messages.proofs.Collecting.{IsCollecting}
use Rattle.desk_messages.proofs.fills.collect.Given as goal

abbrev pub invariant-loop-first : goal.invariant-loop-first
invariant-loop-first l =
    IsCollecting (l.account + 1) l.orders l.view.clearing l.links.nexts.items l.first l.own.items
    × (vec_capacity l.own ≡ vec_capacity l.fn.own)

abbrev pub decreases-loop-first : goal.decreases-loop-first
decreases-loop-first l = l.first
