-- Legs that are read one by one.
use Rattle.std.proofs.Common.{◌≡◌, ◌+◌, ◌≤◌, ℕ, List, [], ◌∷◌, ◌++◌, inl, inr, length, take, Option, Some, None, sym, ap, ◌∙◌, subst, add-one}
use Rattle.std.specs.Prelude.{slice_get}
use Rattle.std.specs.Option.{option_map}
use Rattle.std.proofs.lemmas.Option.{none-some, slice_get-map, slice_get_cases, slice_get_within, get_or_from_slice_get}
use Rattle.std.proofs.lemmas.List.{take_more}
use Rattle.weight_rows.specs.declared.entries.Entry.{Entry}
use Rattle.weight_rows.specs.declared.faults.RowFault.{RowFault}
use Rattle.weight_rows.specs.Faults.{IsPlaceFaultOf, asset_before, IsFaultAt}

-- if there is no leg at a place, all were read
pub ended : (row : List Entry) (place : ℕ) → None ≡ slice_get row place → length row ≤ place
ended row place none =
    elim ((slice_get_cases row place).1) [
      | inl found ↦ absurd (none-some found.0 (none ∙ found.2))
      | inr past ↦ past.0
    ]

-- one more leg was read
pub read_more : (row : List Entry) (place : ℕ) (e : Entry) → Some e ≡ slice_get row place → take (place + 1) row ≡ take place row ++ e ∷ []
read_more row place e read =
    take_more row place e (slice_get_within row place e (sym read)) ∙ ap (λ x. take place row ++ x ∷ []) (get_or_from_slice_get row place e e (sym read))

-- the fault of the leg that was read at a place is that of the place
pub fault_at : (row : List Entry) (place : ℕ) (before : Option ℕ) (e : Entry) (fault : Option RowFault) → Some e ≡ slice_get row place → before ≡ asset_before row place → IsPlaceFaultOf place before e fault → IsFaultAt row place fault
fault_at row place before e fault read before_is told d =
    subst (λ x. IsPlaceFaultOf place (asset_before row place) x fault) (sym (get_or_from_slice_get row place e d (sym read)))
    (subst (λ b. IsPlaceFaultOf place b e fault) before_is told)

-- the asset of the leg that was read is the one before the next place
pub before_next : (row : List Entry) (place : ℕ) (e : Entry) → Some e ≡ slice_get row place → Some e.asset ≡ asset_before row (place + 1)
before_next row place e read =
    let asset = λ (x : Entry). x.asset in
    rw add-one (ap (option_map asset) read ∙ sym (slice_get-map asset row place))
