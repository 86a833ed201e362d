use Rattle.std.proofs.Common.{◌∙◌, pos, get_or, refl, ap, arith}
use Rattle.std.specs.Int.{w32, w128}
use Rattle.std.proofs.lemmas.Int.{to_z-of_z, fits_signed_from_abs}
use Rattle.std.proofs.lemmas.List.{length-set}
use Rattle.joint_prices.proofs.Filling.{filled_more, filled_all}
use Rattle.joint_rounds.proofs.VectorFacts.{cut_at, cut_is, all_cut}
use Rattle.joint_rounds.proofs.vectors.cut_all.Goals as goal

pub loop-a-init : goal.loop-a-init
loop-a-init c = (refl, c.requires.count)

pub loop-a-preserved : goal.loop-a-preserved
loop-a-preserved c =
    let e = to_z-of_z w32 c.args.e c.ranges.e in
    let a = c.loop-a.a in
    let sum = get_or c.args.sums.now a (pos 0) in
    let s = to_z-of_z w128 sum (fits_signed_from_abs w128 sum (omega (arith, c.requires.small a (omega (arith, c.loop-a-test.true, c.requires.count))))) in
    let is = rw (e, s) at c.cut-number.ensures in
    rw e (
      filled_more (cut_at c.args.sums.now c.args.e) c.loop-a.into 0 c.loop-a.a c.cut-number.result (omega (arith, c.loop-a-test.true, c.loop-a.auto.into))
          (is ∙ cut_is c.args.sums.now c.args.e a ∙ ap (cut_at c.args.sums.now c.args.e) (omega arith)) (rw e at c.loop-a.invariant.0),
      length-set _ _ _ ∙ c.loop-a.invariant.1,
    )

pub returns : goal.returns
returns c =
    let e = to_z-of_z w32 c.args.e c.ranges.e in
    all_cut c.args.sums.now c.args.e _ c.loop-a.into (filled_all (cut_at c.args.sums.now c.args.e) c.loop-a.into 0 c.loop-a.a _ c.loop-a.invariant.1 (omega (arith, c.loop-a-test.false, c.requires.count)) (omega (arith, c.loop-a.auto.a-end, c.requires.count)) (rw e at c.loop-a.invariant.0))
