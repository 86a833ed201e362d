use Rattle.std.proofs.Common.{Some, None, refl, sym, arith}
use borrow.Author.Count.{below_more}
use Rattle.std.proofs.lemmas.Option.{slice_get_within}
use Rattle.weight_rows.proofs.FaultLemmas.{first_place_fault_is_row_fault}
use Rattle.wire_records.proofs.EntryReads.{ended, fault_at, before_next}
use Rattle.wire_records.proofs.place.RowView.first_fault.Goals as goal

pub returns-in-Some-place_fault : goal.returns-in-Some-place_fault
returns-in-Some-place_fault c =
    let fault = c.in-Some-place_fault.fault in
    let within = slice_get_within c.args.self.now c.loop-entry.place c.in-Some.entry (sym c.in-Some.ensures.value) in
    first_place_fault_is_row_fault.some c.args.self.now c.loop-entry.place fault c.requires.few within c.loop-entry.invariant.none
    (fault_at c.args.self.now c.loop-entry.place c.loop-entry.before c.in-Some.entry (Some fault) c.in-Some.ensures.value c.loop-entry.invariant.before_is ((c.in-Some-place_fault.ensures.exact (Some fault)).0 refl))

pub loop-entry-smaller : goal.loop-entry-smaller
loop-entry-smaller c =
    let within = slice_get_within c.args.self.now c.loop-entry.place c.in-Some.entry (sym c.in-Some.ensures.value) in
    omega (arith, within)

pub loop-entry-preserved : goal.loop-entry-preserved
loop-entry-preserved c =
    let within = slice_get_within c.args.self.now c.loop-entry.place c.in-Some.entry (sym c.in-Some.ensures.value) in
    let here = fault_at c.args.self.now c.loop-entry.place c.loop-entry.before c.in-Some.entry None c.in-Some.ensures.value c.loop-entry.invariant.before_is ((c.in-None.ensures.exact None).0 refl) in
    record {
      within = omega (arith, within);
      none = below_more _ _ c.loop-entry.invariant.none here;
      before_is = before_next c.args.self.now c.loop-entry.place c.in-Some.entry c.in-Some.ensures.value;
    }

pub returns : goal.returns
returns c =
    let all = ended c.args.self.now c.loop-entry.place c.in_default.ensures.value in
    first_place_fault_is_row_fault.none c.args.self.now c.requires.some c.requires.few (λ k within. c.loop-entry.invariant.none k (omega (arith, within, all)))
