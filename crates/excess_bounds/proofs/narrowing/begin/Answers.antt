use Rattle.std.proofs.Common.{◌≡◌, length, ◌∙◌, refl, arith}
use Rattle.std.proofs.lemmas.List.{take_all}
use Rattle.excess_bounds.proofs.StepFacts.{begin_more, none_narrowed}
use Rattle.excess_bounds.proofs.narrowing.begin.Goals as goal

pub push_reserved-requires : goal.push_reserved-requires
push_reserved-requires c = omega (arith, c.loop-cell.invariant.0.room, c.loop-cell-test.true, c.requires.room, c.loop-cell.invariant.1)

pub loop-cell-init : goal.loop-cell-init
loop-cell-init c = (none_narrowed _ _ _ c.clear.ensures.items (λ m. refl), c.clear.ensures.capacity)

pub loop-cell-preserved : goal.loop-cell-preserved
loop-cell-preserved c =
    let s = c.step-step.ensures in (
      begin_more _ _ _ _ _ _ _ _ _ _ _ _ c.requires.some_parts c.requires.few_parts c.loop-cell-test.true c.requires.there c.requires.moves c.loop-cell.invariant.0 c.turned-cell.ensures.cell c.turned-cell.ensures.light c.index-quotes-cell.is
          s.terms s.price s.parts s.weight s.first s.last s.small c.push_reserved.ensures.items,
      c.push_reserved.ensures.capacity ∙ c.loop-cell.invariant.1,
    )

pub returns-clause-narrowed : goal.returns-clause-narrowed
returns-clause-narrowed c =
    let all : c.loop-cell.cell-index ≡ length c.args.cells.now = omega (arith, c.loop-cell-test.false, c.loop-cell.auto.cell-index-end) in
    rw (take_all c.loop-cell.cell-index c.args.cells.now c.loop-cell-test.false, all) at c.loop-cell.invariant.0
