-- A list of legs has at most one first fault, and the faults of its places determine it.
use Rattle.std.proofs.Common.{◌≡◌, ℕ, zero, suc, ◌+◌, ◌-◌, ◌<◌, ◌≤◌, List, length, get_or, Option, Some, None, sym, ap, ◌∙◌, refl, subst, add-one, sub-one, arith, ⊎_elim}
use Rattle.std.specs.Prelude.{◌↔◌, slice_get}
use Rattle.std.proofs.lemmas.Bool.{cases_lt}
use Rattle.std.proofs.lemmas.List.{get_or_default}
use Rattle.std.proofs.lemmas.Option.{slice_get-get_or}
use Rattle.weight_rows.specs.declared.entries.Entry.{Entry}
use Rattle.weight_rows.specs.declared.faults.RowFault.{RowFault}
use Rattle.weight_rows.specs.declared.faults.RowFault.TheVariants.{Empty, TooMany, Unordered, BadWeight}
use Rattle.weight_rows.specs.Rows.{most_entries, assets_of, IsWeightVector}
use Rattle.weight_rows.specs.Faults.{IsAscendingAt, IsConsistentAt, IsConsistentBefore, IsUnorderedFirstAt, IsBadWeightFirstAt, IsFaultOf, IsAbove, IsPlaceFaultOf, asset_before, IsFaultAt}
use Rattle.weight_rows.specs.RowLaws.{FirstFaultIsOne, ConsistentEntriesAreLawful, FirstPlaceFaultIsRowFault}
use Rattle.weight_rows.proofs.RowLemmas.{no_entry, asset_at, length-assets_of}

-- ---- consistent places and weight vectors
pub consistent_entries_are_lawful : ConsistentEntriesAreLawful
consistent_entries_are_lawful row some few consistent =
    record {
      some = some;
      few = few;
      ascending = λ k within.
          let here : k + 1 < length row = omega (arith, within, length-assets_of row) in
          let back : (k + 1) - 1 ≡ k = omega arith in
          rw back at ((consistent (k + 1) here).0 (omega arith));
      weights = λ k d within. (consistent k within).1 d;
    }

-- a weight vector is consistent at each of its places
consistent : (row : List Entry) (place : ℕ) → IsWeightVector row → place < length row → IsConsistentAt row place
consistent row place lawful within =
    (ascending place within, λ d. lawful.weights place d within)
  where
    ascending : (place : ℕ) → place < length row → IsAscendingAt row place
    ascending place within later =
        let next : (place - 1) + 1 ≡ place = omega (arith, later) in
        rw next at (lawful.ascending (place - 1) (omega (arith, within, later, length-assets_of row)))

-- ---- one first fault
same_place : (row : List Entry) (j k : ℕ) → (j < k → ⊥) → (k < j → ⊥) → j ≡ k
same_place row j k not_before not_after =
    ⊎_elim (λ before. absurd (not_before before)) (λ h. ⊎_elim (λ after. absurd (not_after after)) (λ h'. omega (arith, h, h')) (cases_lt k j)) (cases_lt j k)

-- the first place can't be out of order and have a bad weight after an ascending asset
apart : (row : List Entry) (j k : ℕ) → IsUnorderedFirstAt row j → IsBadWeightFirstAt row k → ⊥
apart row j k unordered bad =
    let same = same_place row j k (λ before. unordered.unordered (bad.before j before).0) (λ after. bad.bad (unordered.before k after).1) in
    unordered.unordered (subst (λ n. IsAscendingAt row n) (sym same) bad.ascending)

pub first_fault_is_one : FirstFaultIsOne
first_fault_is_one row None None h k = refl
first_fault_is_one row None (Some Empty) h k = absurd (omega (arith, h.some, ap length k))
first_fault_is_one row None (Some TooMany) h k = absurd (omega (arith, h.few, k))
first_fault_is_one row None (Some (Unordered j)) h k = absurd (k.unordered (consistent row j h k.within).0)
first_fault_is_one row None (Some (BadWeight j)) h k = absurd (k.bad (consistent row j h k.within).1)
first_fault_is_one row (Some Empty) None h k = absurd (omega (arith, k.some, ap length h))
first_fault_is_one row (Some Empty) (Some Empty) h k = refl
first_fault_is_one row (Some Empty) (Some TooMany) h k = absurd (omega (arith, ap length h, k))
first_fault_is_one row (Some Empty) (Some (Unordered j)) h k = absurd (omega (arith, ap length h, k.within))
first_fault_is_one row (Some Empty) (Some (BadWeight j)) h k = absurd (omega (arith, ap length h, k.within))
first_fault_is_one row (Some TooMany) None h k = absurd (omega (arith, k.few, h))
first_fault_is_one row (Some TooMany) (Some Empty) h k = absurd (omega (arith, ap length k, h))
first_fault_is_one row (Some TooMany) (Some TooMany) h k = refl
first_fault_is_one row (Some TooMany) (Some (Unordered j)) h k = absurd (omega (arith, k.few, h))
first_fault_is_one row (Some TooMany) (Some (BadWeight j)) h k = absurd (omega (arith, k.few, h))
first_fault_is_one row (Some (Unordered i)) None h k = absurd (h.unordered (consistent row i k h.within).0)
first_fault_is_one row (Some (Unordered i)) (Some Empty) h k = absurd (omega (arith, ap length k, h.within))
first_fault_is_one row (Some (Unordered i)) (Some TooMany) h k = absurd (omega (arith, h.few, k))
first_fault_is_one row (Some (Unordered i)) (Some (Unordered j)) h k =
    ap (λ n. Some (Unordered n)) (same_place row i j (λ before. h.unordered (k.before i before).0) (λ after. k.unordered (h.before j after).0))
first_fault_is_one row (Some (Unordered i)) (Some (BadWeight j)) h k = absurd (apart row i j h k)
first_fault_is_one row (Some (BadWeight i)) None h k = absurd (h.bad (consistent row i k h.within).1)
first_fault_is_one row (Some (BadWeight i)) (Some Empty) h k = absurd (omega (arith, ap length k, h.within))
first_fault_is_one row (Some (BadWeight i)) (Some TooMany) h k = absurd (omega (arith, h.few, k))
first_fault_is_one row (Some (BadWeight i)) (Some (Unordered j)) h k = absurd (apart row j i k h)
first_fault_is_one row (Some (BadWeight i)) (Some (BadWeight j)) h k =
    ap (λ n. Some (BadWeight n)) (same_place row i j (λ before. h.bad (k.before i before).1) (λ after. k.bad (h.before j after).1))

-- ---- the fault of a place
-- an asset is above the one before it exactly if it ascends in the list
above_at : (row : List Entry) (place : ℕ) (d : Entry) → place < length row → IsAbove (get_or row place d).asset (asset_before row place) ↔ IsAscendingAt row place
above_at row zero d within = (λ _ later. absurd (omega (arith, later)), λ _. tt)
above_at row (suc k) d within =
    let before : slice_get (assets_of row) k ≡ Some (get_or (assets_of row) k 0) = slice_get-get_or (assets_of row) k 0 (omega (arith, within, length-assets_of row)) in
    let here : get_or (assets_of row) (suc k) 0 ≡ (get_or row (suc k) d).asset = asset_at row (suc k) d within in
    rw (before, ← here, sub-one) (λ above _. above, λ ascending. ascending (omega arith))

-- the asset of a place is the one before the next place
pub asset_before-next : (row : List Entry) (place : ℕ) (d : Entry) → place < length row → asset_before row (place + 1) ≡ Some (get_or row place d).asset
asset_before-next row place d within =
    rw add-one (slice_get-get_or (assets_of row) place 0 (omega (arith, within, length-assets_of row)) ∙ ap Some (asset_at row place d within))

-- the fault of the leg at a place, given the asset before it, is that of the place
pub IsFaultAt-read : (row : List Entry) (place : ℕ) (before : Option ℕ) (d : Entry) (fault : Option RowFault) → place < length row → before ≡ asset_before row place → IsPlaceFaultOf place before (get_or row place d) fault → IsFaultAt row place fault
IsFaultAt-read row place before d fault within is told e =
    subst (λ x. IsPlaceFaultOf place (asset_before row place) x fault) (get_or_default row place d e within) (subst (λ b. IsPlaceFaultOf place b (get_or row place d) fault) is told)

-- a place without a fault is consistent
consistent_at : (row : List Entry) (place : ℕ) → place < length row → IsFaultAt row place None → IsConsistentAt row place
consistent_at row place within none = ((above_at row place no_entry within).0 (none no_entry).0, λ d. (none d).1)

-- a fault after consistent places is the list's
told : (row : List Entry) (place : ℕ) (fault : RowFault) → length row ≤ most_entries → place < length row → IsConsistentBefore row place → IsFaultAt row place (Some fault) → IsFaultOf row (Some fault)
told row place Empty few within before here = absurd (here no_entry)
told row place TooMany few within before here = absurd (here no_entry)
told row place (Unordered k) few within before here =
    subst (IsUnorderedFirstAt row) (sym (here no_entry).0) (record { few = few; within = within; before = before; unordered = λ ascending. (here no_entry).1 ((above_at row place no_entry within).1 ascending) })
told row place (BadWeight k) few within before here =
    subst (IsBadWeightFirstAt row) (sym (here no_entry).0) (record { few = few; within = within; before = before; ascending = (above_at row place no_entry within).0 (here no_entry).1; bad = λ lawful. (here no_entry).2 (lawful no_entry) })

pub first_place_fault_is_row_fault : FirstPlaceFaultIsRowFault
first_place_fault_is_row_fault =
    record {
      some = λ row place fault few within none here. told row place fault few within (λ k before. consistent_at row k (omega (arith, before, within)) (none k before)) here;
      none = λ row some few none. consistent_entries_are_lawful row some few (λ k within. consistent_at row k within (none k within));
    }

-- ---- a result that is a fault of the list
pub exact : (row : List Entry) (answer : Option RowFault) → IsFaultOf row answer → (fault : Option RowFault) → (answer ≡ fault) ↔ IsFaultOf row fault
exact row answer is_fault fault =
    (λ same. subst (λ f. IsFaultOf row f) same is_fault, λ other. first_fault_is_one row answer fault is_fault other)
