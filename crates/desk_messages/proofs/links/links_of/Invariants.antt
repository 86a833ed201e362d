use Rattle.std.proofs.Common.{◌≡◌, ◌≤◌, length}
use Rattle.std.specs.Prelude.{vec_len, vec_capacity}
use Rattle.desk_messages.proofs.Chains.{AreLinking}
use Rattle.desk_messages.proofs.links.links_of.Given as goal

abbrev pub invariant-loop-follow : goal.invariant-loop-follow
invariant-loop-follow l =
    AreLinking l.orders l.accounts l.follow l.firsts.items l.nexts.items
    × (vec_len l.nexts ≡ l.follow)
    × (length l.orders ≤ vec_capacity l.nexts)
