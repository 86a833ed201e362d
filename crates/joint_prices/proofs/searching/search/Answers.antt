use Rattle.std.proofs.Common.{◌∙◌, refl, sym}
use Rattle.joint_prices.proofs.Reaching.{none_searched, one_searched, end_settled, end_spent, near_joint_prices}
use Rattle.joint_prices.proofs.searching.search.Goals as goal

pub loop-step-init : goal.loop-step-init
loop-step-init g c = (none_searched _ _ _ _ _ c.requires.prices c.requires.shares c.requires.range, c.requires.room, c.requires.system, λ p. refl, refl, refl)

pub returns-then-are_settled-clause-found : goal.returns-then-are_settled-clause-found
returns-then-are_settled-clause-found g c =
    let inv = c.loop-step.invariant in
    end_settled _ _ _ c.loop-step._step _ _ _ c.loop-step-test.true (sym (inv.3 c.loop-step.prices) ∙ sym c.are_settled.ensures.answer ∙ c.if-are_settled.true) inv.0

pub loop-step-preserved : goal.loop-step-preserved
loop-step-preserved g c =
    let inv = c.loop-step.invariant in (
      one_searched _ _ _ c.loop-step._step c.loop-step.tau c.loop-step.prices _ c.loop-step.shares _ c.loop-step-test.true (sym (inv.3 c.loop-step.prices) ∙ sym c.are_settled.ensures.answer ∙ c.if-are_settled.false) inv.0
          c.step.ensures.prices c.step.ensures.shares c.step.auto.prices c.step.auto.shares c.step.ensures.range c.step.ensures.each,
      c.step.auto.states ∙ inv.1,
      c.step.ensures.system ∙ inv.2,
      λ p. c.are_settled.ensures.same p ∙ inv.3 p,
      c.are_settled.ensures.assets ∙ inv.4,
      c.are_settled.ensures.orders ∙ inv.5,
    )

pub returns-clause-found : goal.returns-clause-found
returns-clause-found g c = end_spent _ _ _ c.loop-step._step _ _ _ c.loop-step-test.false c.loop-step.invariant.0

pub returns-then-are_settled-clause-near : goal.returns-then-are_settled-clause-near
returns-then-are_settled-clause-near g c near =
    let inv = c.loop-step.invariant in
    let is = end_settled _ _ _ c.loop-step._step _ _ _ c.loop-step-test.true (sym (inv.3 c.loop-step.prices) ∙ sym c.are_settled.ensures.answer ∙ c.if-are_settled.true) inv.0 in
    rw is (near_joint_prices (g.T.Settles.settled c.args.test.now) c.args.orders.now c.args.start.now near)

pub returns-clause-near : goal.returns-clause-near
returns-clause-near g c near =
    let is = end_spent _ _ _ c.loop-step._step _ _ _ c.loop-step-test.false c.loop-step.invariant.0 in
    rw is (near_joint_prices (g.T.Settles.settled c.args.test.now) c.args.orders.now c.args.start.now near)
