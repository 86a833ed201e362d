use Rattle.std.proofs.Common.{length, refl, sym, subst, arith}
use Rattle.std.specs.Prelude.{unsigned_abs}
use Rattle.std.proofs.lemmas.List.{get_or_default}
use Rattle.weight_rows.specs.Rows.{IsWeightVector}
use Rattle.weight_rows.proofs.RowLemmas.{no_entry}
use Rattle.batch_certificate.specs.Weighing.{square, IsWithinPlaces, HasGrownBy}
use Rattle.batch_certificate.proofs.Weighing.{one_given, all_are_given, on_the_way, weights_little, squares_little}
use Rattle.batch_certificate.proofs.weights.add_row_weights.Goals as goal

pub add_entry_weight-requires-clause-small_spread : goal.add_entry_weight-requires-clause-small_spread
add_entry_weight-requires-clause-small_spread c =
    let lawful = subst IsWeightVector (sym c.entries-entry-items.ensures.value) c.entries-entry-items.ensures.lawful in
    let places = subst (λ r. IsWithinPlaces (length c.args.spreads.now) r) (sym c.entries-entry-items.ensures.value) c.requires.places in
    on_the_way unsigned_abs weights_little _ _ _ _ _ lawful c.requires.small_spreads (places _ _ c.loop-entry-test.true) c.loop-entry.invariant.spreads

pub add_entry_weight-requires-clause-small_squares : goal.add_entry_weight-requires-clause-small_squares
add_entry_weight-requires-clause-small_squares c =
    let lawful = subst IsWeightVector (sym c.entries-entry-items.ensures.value) c.entries-entry-items.ensures.lawful in
    let places = subst (λ r. IsWithinPlaces (length c.args.spreads.now) r) (sym c.entries-entry-items.ensures.value) c.requires.places in
    on_the_way square squares_little _ _ _ _ _ lawful c.requires.small_squares (omega (arith, places c.loop-entry.entry-index no_entry c.loop-entry-test.true, c.requires.same)) c.loop-entry.invariant.squares

pub loop-entry-preserved : goal.loop-entry-preserved
loop-entry-preserved c =
    let places = subst (λ r. IsWithinPlaces (length c.args.spreads.now) r) (sym c.entries-entry-items.ensures.value) c.requires.places in
    let here = get_or_default c.entries-entry-items.result.now c.loop-entry.entry-index _ _ c.loop-entry-test.true in
    record {
      spreads = one_given unsigned_abs c.entries-entry-items.result.now c.args.spreads.now c.loop-entry.entry-index c.loop-entry.spreads _ _ c.loop-entry-test.true here (places _ _ c.loop-entry-test.true) c.loop-entry.invariant.spreads c.add_entry_weight.ensures.spreads;
      squares = one_given square c.entries-entry-items.result.now c.args.squares.now c.loop-entry.entry-index c.loop-entry.squares _ _ c.loop-entry-test.true here (omega (arith, places c.loop-entry.entry-index no_entry c.loop-entry-test.true, c.requires.same)) c.loop-entry.invariant.squares c.add_entry_weight.ensures.squares;
    }

pub returns-clause-spreads : goal.returns-clause-spreads
returns-clause-spreads c =
    let lawful = subst IsWeightVector (sym c.entries-entry-items.ensures.value) c.entries-entry-items.ensures.lawful in
    let grown = all_are_given unsigned_abs refl c.entries-entry-items.result.now c.args.spreads.now _ _ lawful c.loop-entry-test.false c.loop-entry.invariant.spreads in
    subst (λ r. HasGrownBy unsigned_abs r c.args.spreads.now c.loop-entry.spreads) c.entries-entry-items.ensures.value grown

pub returns-clause-squares : goal.returns-clause-squares
returns-clause-squares c =
    let lawful = subst IsWeightVector (sym c.entries-entry-items.ensures.value) c.entries-entry-items.ensures.lawful in
    let grown = all_are_given square refl c.entries-entry-items.result.now c.args.squares.now _ _ lawful c.loop-entry-test.false c.loop-entry.invariant.squares in
    subst (λ r. HasGrownBy square r c.args.squares.now c.loop-entry.squares) c.entries-entry-items.ensures.value grown
