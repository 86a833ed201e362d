use Rattle.std.proofs.Common.{◌+◌, arith, ◌∙◌}
use Rattle.desk_messages.specs.Messages.{Tells, own_costs, fill_message}
use Rattle.desk_messages.proofs.Telling.{one_more_told, fills_few}
use Rattle.desk_messages.proofs.counts.Desks.tell_fills.Goals as goal

pub loop-account-preserved : goal.loop-account-preserved
loop-account-preserved c =
    let orders = c.args.orders.now in
    let batch = c.args.view.now.batch in
    let cleared = c.args.view.now.clearing in
    let told : Tells c.loop-account.self c.tell_fills_of.new.self c.loop-account.out.text c.tell_fills_of.new.out.text (fill_message batch (c.loop-account.account + 1) (own_costs (c.loop-account.account + 1) orders cleared)) =
    rw (c.batch.ensures, c.deref-in-loop-account.ensures.value, c.collect.ensures.own) at c.in_ok-tell_fills_of.ensures.told in (
      c.in_ok-tell_fills_of.ensures.before ∙ c.loop-account.invariant.0,
      one_more_told (λ account. fill_message batch account (own_costs account orders cleared)) c.loop-account.account _ _ _ _ _ _ c.loop-account.invariant.1 told
          (fills_few batch (c.loop-account.account + 1) (own_costs (c.loop-account.account + 1) orders cleared)),
      omega (arith, c.collect.ensures.room, c.loop-account.invariant.2),
    )
