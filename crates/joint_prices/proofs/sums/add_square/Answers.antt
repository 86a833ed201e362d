use Rattle.std.proofs.Common.{◌<◌, length, get_or, [], pos, refl, sym, subst, arith}
use Rattle.std.specs.Int.{w128}
use Rattle.std.proofs.lemmas.Int.{to_z-of_z}
use Rattle.std.proofs.lemmas.List.{get_or_default}
use Rattle.weight_rows.specs.declared.entries.Entry.{Entry}
use Rattle.weight_rows.specs.Rows.{IsWeightVector}
use Rattle.joint_prices.specs.Sums.{IsSquareAdded}
use Rattle.joint_prices.proofs.RowSums.{none_squared, one_squared, all_squared, square_on_the_way}
use Rattle.joint_prices.proofs.sums.add_square.Goals as goal

none : Entry
none = record { asset = 0; weight = pos 0 }

pub add_with-requires-clause-places : goal.add_with-requires-clause-places
unfolding none
add_with-requires-clause-places c k d inside =
    let value = c.entries-entry-items.ensures.value in
    let within : c.loop-entry.entry-index < length c.args.row.now = rw value at c.loop-entry-test.true in
    let there = c.requires.places c.loop-entry.entry-index none within in
    let wide = c.loop-entry.invariant.square.each (get_or c.args.row.now c.loop-entry.entry-index none).asset there in
    rw value (omega (arith, wide, c.requires.places k d inside))

pub add_with-requires-clause-small : goal.add_with-requires-clause-small
unfolding none
add_with-requires-clause-small c =
    let f = to_z-of_z w128 c.args.factor c.ranges.factor in
    let value = c.entries-entry-items.ensures.value in
    let within : c.loop-entry.entry-index < length c.args.row.now = rw value at c.loop-entry-test.true in
    let there = c.requires.places c.loop-entry.entry-index none within in
    let lawful = c.entries-entry-items.ensures.lawful in
    let wide = c.loop-entry.invariant.square.each (get_or c.args.row.now c.loop-entry.entry-index none).asset there in
    rw value (λ b inside. square_on_the_way c.args.row.now c.args.factor (length c.args.grid.now) c.args.grid.now c.loop-entry.entry-index c.loop-entry.grid (get_or c.args.row.now c.loop-entry.entry-index none).asset b lawful c.requires.factor (omega (arith, within)) c.requires.small refl there (omega (arith, inside, wide)) (rw (f, value) at c.loop-entry.invariant))

pub loop-entry-init : goal.loop-entry-init
loop-entry-init c = none_squared _ _ _ _ c.requires.square

pub loop-entry-preserved : goal.loop-entry-preserved
unfolding none
loop-entry-preserved c =
    let f = to_z-of_z w128 c.args.factor c.ranges.factor in
    let value = c.entries-entry-items.ensures.value in
    let within : c.loop-entry.entry-index < length c.args.row.now = rw value at c.loop-entry-test.true in
    let e : Entry = get_or c.args.row.now c.loop-entry.entry-index none in
    rw (f, value) (one_squared c.args.row.now c.args.factor (length c.args.grid.now) c.args.grid.now c.loop-entry.entry-index c.loop-entry.grid _ _ [] e within
    (get_or_default c.args.row.now c.loop-entry.entry-index none e within) (c.requires.places c.loop-entry.entry-index none within) (rw (f, value) at c.loop-entry.invariant) (rw (f, value) at c.add_with.ensures.added) (rw value at c.add_with.ensures.others))

pub returns : goal.returns
returns c =
    let lawful = subst IsWeightVector (sym c.entries-entry-items.ensures.value) c.entries-entry-items.ensures.lawful in
    let f = to_z-of_z w128 c.args.factor c.ranges.factor in
    let added = all_squared c.entries-entry-items.result.now c.args.factor c.args.grid.now _ _ lawful c.loop-entry-test.false (rw f at c.loop-entry.invariant) in
    subst (λ r. IsSquareAdded r c.args.factor c.args.grid.now c.loop-entry.grid) c.entries-entry-items.ensures.value added
