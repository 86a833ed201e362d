use Rattle.std.proofs.Common.{◌≡◌, length, ap, ◌∙◌, rules, arith}
use Rattle.std.specs.Prelude.{vec_len}
use Rattle.order_text.specs.Private.{point_of}
use Rattle.serde_json.specs.View.{view, items_view}
use Rattle.order_text.proofs.Ladders.{none_put, one_put, none_more, all_put, too_many, none_made}
use Rattle.order_text.proofs.ladder.points_of.Goals as goal

pub returns-then-values-gt-MOST_POINTS-clause-none : goal.returns-then-values-gt-MOST_POINTS-clause-none
returns-then-values-gt-MOST_POINTS-clause-none c = λ bad. too_many c.args.values.now c.if-values-gt-MOST_POINTS.true

pub loop-value-init : goal.loop-value-init
loop-value-init c = none_put c.args.values.now _ _ c.in-Ok.ensures.items c.in-Ok.ensures.capacity

pub push_reserved-requires : goal.push_reserved-requires
push_reserved-requires c =
    let len : vec_len c.loop-value.points ≡ length c.loop-value.points.items = search rules in
    omega (arith, len, c.loop-value.invariant.count, c.loop-value.invariant.fits, c.loop-value-test.true)

pub returns-in-None-clause-none : goal.returns-in-None-clause-none
returns-in-None-clause-none c =
    λ bad. none_made (items_view c.args.values.now) (none_more c.args.values.now c.loop-value.value-index c.loop-value.points.items _ c.value-item.result c.loop-value-test.true c.loop-value.invariant (c.in-None.ensures ∙ ap (λ v. point_of (view v)) c.value-item.is))

pub loop-value-preserved : goal.loop-value-preserved
loop-value-preserved c =
    rw (c.push_reserved.ensures.items, c.push_reserved.ensures.capacity) (one_put c.args.values.now c.loop-value.value-index c.loop-value.points.items _ c.value-item.result c.loop-value-test.true c.loop-value.invariant c.in-Some.point (c.in-Some.ensures ∙ ap (λ v. point_of (view v)) c.value-item.is))

pub returns-clause-points : goal.returns-clause-points
returns-clause-points c =
    rw c.new.ensures (all_put c.args.values.now c.loop-value.value-index c.loop-value.points.items _ c.loop-value-test.false c.loop-value.invariant)
