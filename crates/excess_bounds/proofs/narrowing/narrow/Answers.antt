use Rattle.std.proofs.Common.{◌≡◌, ◌+ℤ◌, inr, to_z, of_z, ap, refl, ◌∙◌, arith}
use Rattle.std.specs.Int.{w64}
use Rattle.std.proofs.lemmas.Int.{to_z-of_z, fits_signed_from_abs}
use Rattle.list_sums.proofs.Products.{unsigned_abs-add}
use Rattle.flow_orders.proofs.Limits.{orders_fit}
use Rattle.excess_bounds.proofs.Halving.{next_fewer}
use Rattle.excess_bounds.proofs.StepFacts.{can_look, all_small, turn_room, with_order, one_turn}
use Rattle.excess_bounds.proofs.narrowing.narrow.Goals as goal

pub ask-seen-requires : goal.ask-seen-requires
ask-seen-requires c =
    let narrowed = c.loop-bracket.invariant.0 in
    let bracket = c.loop-bracket.invariant.1 in
    record {
      few = omega (arith, narrowed.room, c.requires.column.few);
      each = λ k d inside. can_look _ _ _ _ (omega (arith, c.amount-amount.ensures.below)) (narrowed.each k d inside);
      amount = omega (arith, c.amount-amount.ensures.below, bracket.most, c.requires.most);
    }

pub close-rest-requires-clause-each : goal.close-rest-requires-clause-each
close-rest-requires-clause-each c =
    rw c.ask-seen.ensures.steps (all_small _ _ _ _ _ _ _ c.loop-bracket.invariant.0 c.amount-amount.ensures.above c.amount-amount.ensures.below)

pub overflow_add-rest : goal.overflow_add-rest
overflow_add-rest c =
    let rest = rw c.ask-seen.ensures.steps at c.close-rest.ensures.rest in
    let same = to_z-of_z w64 c.close-rest.result (record { sfits = c.close-rest.type_inv }) in
    let room = turn_room _ _ _ _ _ _ _ c.is_above-is_low.result c.loop-bracket.invariant.0 c.amount-amount.ensures.above c.amount-amount.ensures.below in
    rw same (fits_signed_from_abs w64 _ (omega (arith, rw (← rest) at room, c.requires.column.few, orders_fit)))

pub overflow_add-asked : goal.overflow_add-asked
overflow_add-asked c =
    let narrowed = c.loop-bracket.invariant.0 in
    let seen = c.ask-seen.ensures in
    let sum : to_z w64 (of_z w64 c.ask-seen.result.sum) ≡ c.ask-seen.result.sum = to_z-of_z w64 c.ask-seen.result.sum (fits_signed_from_abs w64 _ (omega (arith, seen.bound, narrowed.room, c.requires.column.few, orders_fit))) in
    rw sum (fits_signed_from_abs w64 _ (omega (arith, seen.bound, narrowed.room, c.requires.column.few, orders_fit, unsigned_abs-add (to_z w64 c.loop-bracket.rest-bits) c.ask-seen.result.sum)))

pub next-guess-requires-clause-next : goal.next-guess-requires-clause-next
next-guess-requires-clause-next c = with_order c.is_above-is_low.result _ _ _ _ c.with-next.ensures c.amount-amount.ensures.above c.amount-amount.ensures.below

pub loop-bracket-init : goal.loop-bracket-init
loop-bracket-init c = (
  c.begin-seen.ensures.narrowed,
  record { some = c.requires.some; most = omega arith; goes_on = λ d one none. absurd (omega (arith, one, none)); ends = inr refl },
  c.begin-seen.ensures.capacity,
)

pub loop-bracket-preserved : goal.loop-bracket-preserved
loop-bracket-preserved c =
    let narrowed = c.loop-bracket.invariant.0 in
    let seen = c.ask-seen.ensures in
    let rest = rw seen.steps at c.close-rest.ensures.rest in
    let steps = rw seen.steps at c.close-rest.ensures.steps in
    let room = turn_room _ _ _ _ _ _ _ c.is_above-is_low.result narrowed c.amount-amount.ensures.above c.amount-amount.ensures.below in
    let closing : to_z w64 (of_z w64 c.close-rest.result) ≡ c.close-rest.result = to_z-of_z w64 c.close-rest.result (record { sfits = c.close-rest.type_inv }) in
    let after = to_z-of_z w64 (to_z w64 c.loop-bracket.rest-bits +ℤ c.close-rest.result) (fits_signed_from_abs w64 _ (omega (arith, rw (← rest) at room, c.requires.column.few, orders_fit))) in
    let sum : to_z w64 (of_z w64 c.ask-seen.result.sum) ≡ c.ask-seen.result.sum = to_z-of_z w64 c.ask-seen.result.sum (fits_signed_from_abs w64 _ (omega (arith, seen.bound, narrowed.room, c.requires.column.few, orders_fit))) in
    let asked = to_z-of_z w64 (to_z w64 c.loop-bracket.rest-bits +ℤ c.ask-seen.result.sum)
    (fits_signed_from_abs w64 _ (omega (arith, seen.bound, narrowed.room, c.requires.column.few, orders_fit, unsigned_abs-add (to_z w64 c.loop-bracket.rest-bits) c.ask-seen.result.sum))) in
    let turn = one_turn _ _ _ _ _ _ _ _ _ _ _ _ _ _ narrowed c.loop-bracket.invariant.1 c.amount-amount.ensures.above c.amount-amount.ensures.below seen.sum (rw (sum, asked) at c.is_above-is_low.ensures)
    steps (ap (λ x. to_z w64 c.loop-bracket.rest-bits +ℤ x) rest) c.with-next.ensures in
    rw (closing, after) (turn.0, turn.1, c.close-rest.ensures.capacity ∙ seen.capacity ∙ c.loop-bracket.invariant.2)

pub loop-bracket-smaller : goal.loop-bracket-smaller
loop-bracket-smaller c =
    let b = c.loop-bracket.invariant.1 in
    next_fewer c.is_above-is_low.result _ _ _ _ _ _ c.with-next.ensures c.amount-amount.ensures.above c.amount-amount.ensures.below (omega (arith, b.most, c.requires.most)) c.amount-amount.ensures.middle c.next-guess.ensures.slow
