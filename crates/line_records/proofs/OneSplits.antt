-- Bytes have one list of lines.
use Rattle.std.proofs.Common.{◌≡◌, ◌≢◌, ℕ, List, [], ◌∷◌, ◌++◌, ◌⊎◌, inl, inr, sym, ◌∙◌}
use Rattle.wire_records.proofs.CodeLaws.{values_unique}
use Rattle.line_records.specs.Laws.{OneSplit}
use Rattle.line_records.proofs.Pieces.{ended_lines, ended_code, none_in_piece}

-- what the lines are, by the ended ones and the piece after them
abbrev AreAll : Type 0 → List (List ℕ) → List ℕ → List (List ℕ) → Type 0
AreAll More ended last lines = ((lines ≡ ended) × (More ⊎ (last ≡ []))) ⊎ ((lines ≡ ended ++ last ∷ []) × (¬ More) × (last ≢ []))

-- the last piece counts, or it doesn't
both_ways : (More : Type 0) (last : List ℕ) → More ⊎ (last ≡ []) → (¬ More) → last ≢ [] → ⊥
both_ways More last (inl more) not some = not more
both_ways More last (inr none) not some = some none

-- the ended lines and the piece after them determine the list of lines
one_all : (More : Type 0) (ended : List (List ℕ)) (last : List ℕ) (lines other : List (List ℕ)) → AreAll More ended last lines → AreAll More ended last other → lines ≡ other
one_all More ended last lines other (inl a) (inl b) = a.0 ∙ sym b.0
one_all More ended last lines other (inl a) (inr b) = absurd (both_ways More last a.1 b.1 b.2)
one_all More ended last lines other (inr a) (inl b) = absurd (both_ways More last b.1 a.1 a.2)
one_all More ended last lines other (inr a) (inr b) = a.0 ∙ sym b.0

-- bytes have one list of lines, since they split into ended lines and a piece in one way
pub one_split : (More : Type 0) → OneSplit More
one_split More bytes lines other a b =
    let parts = values_unique ended_lines ended_code a.ended b.ended a.last b.last a.pieces b.pieces (none_in_piece a.last a.piece) (none_in_piece b.last b.piece) (sym a.whole ∙ b.whole) in
    one_all More b.ended b.last lines other (rw (← parts.0, ← parts.1) a.all) b.all
