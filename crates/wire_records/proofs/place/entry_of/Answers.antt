use Rattle.std.proofs.Common.{◌≡◌, ◌++◌, ℕ, ℤ, List, Some, to_z, of_z, w32, append_assoc, refl, ap, ◌∙◌}
use Rattle.std.proofs.lemmas.Int.{to_z-of_z}
use Rattle.std.proofs.lemmas.Option.{none-some, same_Some}
use Rattle.wire_fields.proofs.Encoding.{FitsSigned-from_signed}
use Rattle.wire_records.proofs.Requests.{same_entry}
use Rattle.wire_fields.specs.Numbers.{unsigned, signed}
use Rattle.weight_rows.specs.declared.entries.Entry.{Entry}
use Rattle.wire_records.specs.Bodies.{entry_encoding}
use Rattle.wire_records.proofs.place.entry_of.Goals as goal

-- the asset comes before the weight
apart : (e : Entry) (bytes rest : List ℕ) → bytes ≡ entry_encoding e ++ rest → bytes ≡ unsigned 2 e.asset ++ (signed 4 e.weight ++ rest)
unfolding entry_encoding
apart e bytes rest same = same ∙ append_assoc (unsigned 2 e.asset) (signed 4 e.weight) rest

pub returns-in_err-asset : goal.returns-in_err-asset
returns-in_err-asset c = λ e rest fits same.
    let asset = c.in_err-asset.ensures.again e.asset (signed 4 e.weight ++ rest) fits.0 (c.new-cursor.ensures ∙ apart e c.args.bytes.now rest same) in
    absurd (none-some e.asset asset.0)

pub returns-in_err-weight : goal.returns-in_err-weight
returns-in_err-weight c = λ e rest fits same.
    let asset = c.in_ok-asset.ensures.again e.asset (signed 4 e.weight ++ rest) fits.0 (c.new-cursor.ensures ∙ apart e c.args.bytes.now rest same) in
    let weight = c.in_err-weight.ensures.again e.weight rest fits.1 asset.1 in
    absurd (none-some e.weight weight.0)

pub returns : goal.returns
returns c = λ e rest fits same.
    let asset = c.in_ok-asset.ensures.again e.asset (signed 4 e.weight ++ rest) fits.0 (c.new-cursor.ensures ∙ apart e c.args.bytes.now rest same) in
    let weight = c.in_ok-weight.ensures.again e.weight rest fits.1 asset.1 in
    let back : to_z w32 (of_z w32 e.weight) ≡ e.weight = to_z-of_z w32 e.weight (FitsSigned-from_signed 4 w32 refl e.weight fits.1) in
    let cast = λ (z : ℤ). to_z w32 (of_z w32 z) in
    ap Some (same_entry _ e (same_Some _ _ asset.0) (ap cast (same_Some _ _ weight.0) ∙ back))
