use Rattle.std.proofs.Common.{arith, sym, ◌∙◌, w64}
use Rattle.std.proofs.lemmas.Int.{ints, to_z-of_z}
use Rattle.single_bisect.proofs.Narrowing.{IsNarrowed-start, IsNarrowed-turned, IsNarrowed-not_yet, IsLastBefore-narrowed}
use Rattle.single_bisect.proofs.Answered.{equal-true, equal-false}
use Rattle.single_bisect.proofs.turn.last_before_turn.Goals as goal

pub loop-width-init : goal.loop-width-init
loop-width-init g c =
    let low = to_z-of_z w64 c.args.low c.ranges.low in
    let high = to_z-of_z w64 c.args.high c.ranges.high in
    let width = rw (low, high) at c.abs_diff-width.ensures in
    rw (low, high) (IsNarrowed-start _ _ _ _ _ _ c.requires.ends (omega (arith, ints, width)) (omega (arith, ints, width)))

pub loop-width-preserved-then-at-turned : goal.loop-width-preserved-then-at-turned
loop-width-preserved-then-at-turned g c =
    let low = to_z-of_z w64 c.args.low c.ranges.low in
    let high = to_z-of_z w64 c.args.high c.ranges.high in
    let answer = sym c.at.ensures.answer ∙ equal-true _ _ c.if-at-turned.true in
    IsNarrowed-turned _ _ _ _ _ _ _ _ _ _ _ _ _ (rw (low, high) c.requires.turns) c.loop-width.invariant c.loop-width-test.true (omega arith) (omega arith) (omega (arith, ints)) answer c.at.ensures.test_stays c.at.ensures.counted

pub loop-width-preserved : goal.loop-width-preserved
loop-width-preserved g c =
    let low = to_z-of_z w64 c.args.low c.ranges.low in
    let high = to_z-of_z w64 c.args.high c.ranges.high in
    let answer = rw c.at.ensures.answer at (equal-false _ _ c.if-at-turned.false) in
    IsNarrowed-not_yet _ _ _ _ _ _ _ _ _ _ _ _ _ (rw (low, high) c.requires.turns) c.loop-width.invariant c.loop-width-test.true (omega arith) (omega arith) (omega arith) (omega (arith, ints)) answer c.at.ensures.test_stays c.at.ensures.counted

pub returns-clause-last : goal.returns-clause-last
returns-clause-last g c =
    let low = to_z-of_z w64 c.args.low c.ranges.low in
    let high = to_z-of_z w64 c.args.high c.ranges.high in
    rw (low, high) at (IsLastBefore-narrowed _ _ _ _ _ _ _ _ _ c.loop-width.invariant c.loop-width-test.false)
