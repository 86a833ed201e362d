use Rattle.std.proofs.Common.{◌∙◌}
use Rattle.price_moves.specs.declared.retracing.Retraced.TheVariants.{Legal, Illegal}
use Rattle.price_moves.proofs.Lowering.{retrace_lowers}
use Rattle.price_moves.proofs.MadeAgain.{none_retraced, near_so_far, one_more_retraced, stops, all_retraced}
use Rattle.price_moves.proofs.retracing.retrace.Goals as goal

pub loop-place-init : goal.loop-place-init
loop-place-init c = none_retraced _ _ _ _

pub move_again-requires : goal.move_again-requires
move_again-requires c = record { some_parts = c.requires.some_parts; few_parts = c.requires.few_parts; near = near_so_far _ _ _ _ _ _ _ c.loop-place.invariant c.requires.start c.requires.most }

pub returns-then-not-move_again-clause-orders : goal.returns-then-not-move_again-clause-orders
returns-then-not-move_again-clause-orders c = c.move_again.ensures.orders ∙ c.loop-place.invariant.same

pub returns-then-not-move_again-clause-retraced : goal.returns-then-not-move_again-clause-retraced
returns-then-not-move_again-clause-retraced c = (
  stops _ _ _ _ _ _ _ c.loop-place.invariant c.loop-place-test.true (c.move_again.ensures.illegal c.if-not-move_again.true),
  c.move_again.ensures.stays c.if-not-move_again.true ∙ c.loop-place.invariant.end,
)

pub loop-place-preserved : goal.loop-place-preserved
loop-place-preserved c =
    let turn = c.move_again.ensures in
    let legal = c.if-not-move_again.false in
    one_more_retraced _ _ _ _ _ _ _ c.loop-place.invariant _ _ c.loop-place-test.true (turn.legal legal) turn.orders (turn.moved legal)

pub returns-clause-orders : goal.returns-clause-orders
returns-clause-orders c = c.loop-place.invariant.same

pub returns-clause-retraced : goal.returns-clause-retraced
returns-clause-retraced c = all_retraced _ _ _ _ _ _ _ c.loop-place.invariant c.loop-place-test.false

pub returns-then-not-move_again-clause-lowers : goal.returns-then-not-move_again-clause-lowers
returns-then-not-move_again-clause-lowers c =
    retrace_lowers c.args.parts c.requires.some_parts (Illegal c.loop-place.place) c.args.work.now.orders c.args.work.now.prices c.args.trace.now c.move_again.new.work.prices c.prices-prices.ensures.priced.each (
      stops _ _ _ _ _ _ _ c.loop-place.invariant c.loop-place-test.true (c.move_again.ensures.illegal c.if-not-move_again.true),
      c.move_again.ensures.stays c.if-not-move_again.true ∙ c.loop-place.invariant.end,
    )

pub returns-clause-lowers : goal.returns-clause-lowers
returns-clause-lowers c =
    retrace_lowers c.args.parts c.requires.some_parts Legal c.args.work.now.orders c.args.work.now.prices c.args.trace.now c.loop-place.work.prices c.prices-prices.ensures.priced.each (all_retraced _ _ _ _ _ _ _ c.loop-place.invariant c.loop-place-test.false)
