use Rattle.std.proofs.Common.{◌∙◌, refl, sym}
use Rattle.joint_rounds.proofs.Reaching.{none_searched, one_searched, end_even, end_spent, near_joint_prices, moves_alike}
use Rattle.joint_rounds.proofs.searching.search.Goals as goal

pub loop-step-init : goal.loop-step-init
loop-step-init g c = (none_searched _ _ _ _ _ _ _ _ c.requires.prices c.requires.shares c.requires.range, c.requires.room, c.requires.moves, c.requires.small, c.requires.parts, c.requires.rounds, c.requires.elimination, λ p. refl, λ p. refl, refl, refl)

pub loop-step-preserved : goal.loop-step-preserved
loop-step-preserved g c =
    let inv = c.loop-step.invariant in
    let prices = c.loop-step.prices in
    let alike = moves_alike c.args.direct (g.T.TestsEven.open_parts c.are_even.new.self) (g.T.TestsEven.open_parts c.args.test.now) prices _ _ (c.are_even.ensures.same_parts prices ∙ inv.8 prices) in (
      one_searched _ _ _ _ _ _ c.loop-step._step c.loop-step.s prices c.step.new.prices c.loop-step.shares c.step.new.shares _ c.requires.fall c.loop-step-test.true
          (sym (inv.7 prices) ∙ sym c.are_even.ensures.answer ∙ c.if-are_even.false) inv.0 alike
          c.step.ensures.prices c.step.ensures.shares c.step.auto.prices c.step.auto.shares c.step.ensures.range c.step.ensures.each,
      c.step.auto.states ∙ inv.1,
      c.step.auto.by ∙ inv.2,
      c.step.ensures.small,
      c.step.auto.open_parts ∙ inv.4,
      c.step.ensures.rounds ∙ inv.5,
      λ direct. c.step.ensures.elimination ∙ inv.6 direct,
      λ p. c.step.ensures.same p ∙ c.are_even.ensures.same p ∙ inv.7 p,
      λ p. c.step.ensures.same_parts p ∙ c.are_even.ensures.same_parts p ∙ inv.8 p,
      c.step.ensures.assets ∙ c.are_even.ensures.assets ∙ inv.9,
      c.step.ensures.orders ∙ c.are_even.ensures.orders ∙ inv.10,
    )

pub returns-then-are_even : goal.returns-then-are_even
returns-then-are_even g c =
    let inv = c.loop-step.invariant in
    let is = end_even _ _ _ _ _ _ c.loop-step._step _ c.loop-step.prices _ c.loop-step-test.true (sym (inv.7 c.loop-step.prices) ∙ sym c.are_even.ensures.answer ∙ c.if-are_even.true) inv.0 in
    record {
      found = is;
      range = inv.0.range;
      near = λ near. rw is (near_joint_prices _ _ _ _ _ c.args.start.now near);
      same = λ p. c.are_even.ensures.same p ∙ inv.7 p;
      same_parts = λ p. c.are_even.ensures.same_parts p ∙ inv.8 p;
      assets = c.are_even.ensures.assets ∙ inv.9;
      orders = c.are_even.ensures.orders ∙ inv.10;
    }

pub returns : goal.returns
returns g c =
    let inv = c.loop-step.invariant in
    let is = end_spent _ _ _ _ _ _ c.loop-step._step _ c.loop-step.prices _ c.loop-step-test.false inv.0 in
    record {
      found = is;
      range = inv.0.range;
      near = λ near. rw is (near_joint_prices _ _ _ _ _ c.args.start.now near);
      same = inv.7;
      same_parts = inv.8;
      assets = inv.9;
      orders = inv.10;
    }
