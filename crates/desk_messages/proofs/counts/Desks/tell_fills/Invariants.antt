use Rattle.std.proofs.Common.{◌≡◌, ◌≤◌, length}
use Rattle.std.specs.Prelude.{vec_capacity}
use Rattle.desk_messages.specs.Messages.{own_costs, fill_message}
use Rattle.desk_messages.proofs.Telling.{HasTold}
use Rattle.desk_messages.proofs.counts.Desks.tell_fills.Given as goal

abbrev pub invariant-loop-account : goal.invariant-loop-account
invariant-loop-account l =
    (l.out.before ≡ l.fn.out.before)
    × HasTold (λ account. fill_message l.view.batch account (own_costs account l.orders l.view.clearing)) l.account l.fn.self l.self l.fn.out.text l.out.text
    × (length l.orders ≤ vec_capacity l.own)
