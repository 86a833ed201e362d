use Rattle.std.proofs.Common.{List, ap, ◌∙◌, arith}
use Rattle.std.specs.List.{sum_by}
use Rattle.std.proofs.lemmas.List.{take_all}
use Rattle.flow_orders.specs.Outcomes.{Fill}
use Rattle.sample_summary.proofs.Counted.{rate_more}
use Rattle.sample_summary.proofs.counting.units_of.Goals as goal

pub loop-place-preserved : goal.loop-place-preserved
loop-place-preserved c =
    let before = c.loop-place.invariant in
    record {
      value = rate_more c.args.cleared.now.clearing c.loop-place.place c.loop-place.units c.from-units.result (omega (arith, c.loop-place-test.true, c.rate_count-place-end.ensures)) (c.from-units.ensures ∙ c.rate_at.ensures) before.value;
      bound = omega (arith, before.bound, c.from-units.ensures, c.rate_at.type_inv);
    }

pub returns : goal.returns
returns c =
    c.loop-place.invariant.value
    ∙ ap (λ (xs : List Fill). sum_by (λ (f : Fill). f.rate) xs) (take_all c.loop-place.place c.args.cleared.now.clearing.fills (omega (arith, c.loop-place-test.false, c.rate_count-place-end.ensures)))
