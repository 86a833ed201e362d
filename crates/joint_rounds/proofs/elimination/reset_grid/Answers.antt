use Rattle.std.proofs.Common.{◌≡◌, ℕ, ℤ, List, length, map, get_or, [], ◌+◌, ◌∙◌, refl, ap, arith}
use Rattle.std.specs.List.{range_with_len}
use Rattle.std.proofs.lemmas.List.{length-set, get_or_default}
use Rattle.joint_rounds.specs.Elimination.{diagonal}
use Rattle.joint_prices.proofs.Filling.{filled_more, filled_all, kept_at, kept_more}
use Rattle.joint_rounds.proofs.elimination.reset_grid.Goals as goal

begun : ℕ → ℕ → List ℤ
begun n a = map (diagonal a) (range_with_len 0 n)

pub loop-a-init : goal.loop-a-init
loop-a-init c = (refl, refl, refl)

pub loop-a-preserved : goal.loop-a-preserved
unfolding begun
loop-a-preserved c =
    let d = c.index-grid-a.result in
    let n = length c.args.grid.now in
    let here = kept_at c.loop-a.grid c.args.grid.now c.loop-a.a d c.loop-a.invariant.1 ∙ get_or_default c.args.grid.now c.loop-a.a d [] c.loop-a-test.true in
    let wide : length (get_or c.loop-a.grid c.loop-a.a d) ≡ n = ap length here ∙ c.requires.square.each c.loop-a.a c.loop-a-test.true in
    let row_is : c.reset.new.sums ≡ begun n (0 + c.loop-a.a) = c.reset.ensures ∙ ap (λ m. map (diagonal c.loop-a.a) (range_with_len 0 m)) wide ∙ ap (begun n) (omega arith) in (
      filled_more (begun n) c.loop-a.grid 0 c.loop-a.a c.reset.new.sums (omega (arith, c.loop-a-test.true, c.loop-a.invariant.2)) row_is c.loop-a.invariant.0,
      kept_more c.loop-a.grid c.args.grid.now c.loop-a.a c.reset.new.sums c.loop-a.invariant.1,
      length-set _ _ _ ∙ c.loop-a.invariant.2,
    )

pub returns : goal.returns
unfolding begun
returns c = filled_all (begun (length c.args.grid.now)) c.loop-a.grid 0 c.loop-a.a _ c.loop-a.invariant.2 c.loop-a-test.false c.loop-a.auto.a-end c.loop-a.invariant.0
