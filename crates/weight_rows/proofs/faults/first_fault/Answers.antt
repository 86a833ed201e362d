use Rattle.std.proofs.Common.{Some, None, sym, refl, arith}
use borrow.Author.Count.{below_more}
use Rattle.weight_rows.proofs.FaultLemmas.{asset_before-next, IsFaultAt-read, first_place_fault_is_row_fault}
use Rattle.weight_rows.proofs.RowLemmas.{no_entry}
use Rattle.weight_rows.proofs.faults.first_fault.Goals as goal

pub loop-place-preserved : goal.loop-place-preserved
loop-place-preserved c =
    let here = IsFaultAt-read _ _ _ _ None c.loop-place-test.true c.loop-place.invariant.before_is ((c.in-None.ensures.exact None).0 refl) in
    record { none = below_more _ _ c.loop-place.invariant.none here; before_is = sym (asset_before-next _ _ _ c.loop-place-test.true) }

pub returns-in-Some : goal.returns-in-Some
returns-in-Some c =
    let fault = Some c.in-Some.fault in
    let here = IsFaultAt-read _ _ _ no_entry fault c.loop-place-test.true c.loop-place.invariant.before_is ((c.in-Some.ensures.exact fault).0 refl) in
    first_place_fault_is_row_fault.some _ _ c.in-Some.fault c.requires.few c.loop-place-test.true c.loop-place.invariant.none here

pub returns : goal.returns
returns c =
    first_place_fault_is_row_fault.none _ c.requires.some c.requires.few (λ k within. c.loop-place.invariant.none k (omega (arith, within)))
