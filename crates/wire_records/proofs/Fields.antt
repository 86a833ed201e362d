-- Bytes as a number and what follows it.
use Rattle.std.proofs.Common.{◌≡◌, ◌+◌, ◌<◌, ℕ, List, ◌++◌, length, take, drop, length-drop, sym, ap, ◌∙◌, arith}
use Rattle.std.proofs.lemmas.List.{take-append-drop, length-take-le}
use Rattle.std.proofs.lemmas.List.Elements.{All-take, All-drop}
use Rattle.wire_fields.specs.Numbers.{unsigned, IsUnsigned}
use Rattle.wire_fields.proofs.Encoding.{unsigned_complete}
use Rattle.wire_records.specs.Records.{AreBytes}

-- bytes are a number, if they have its size
pub whole_number : (size : ℕ) (bytes : List ℕ) → length bytes ≡ size → AreBytes bytes → (m : ℕ) × IsUnsigned size m × (bytes ≡ unsigned size m)
whole_number size bytes len small = let found = unsigned_complete size bytes len small in (found.0, found.1, sym found.2)

-- bytes are a number and a rest, if they have as many
pub prefix_number : (size n : ℕ) (bytes : List ℕ) → length bytes ≡ size + n → AreBytes bytes → (m : ℕ) × (rest : List ℕ) × IsUnsigned size m × (length rest ≡ n) × AreBytes rest × (bytes ≡ unsigned size m ++ rest)
prefix_number size n bytes len small =
    let rest = drop size bytes in
    let found = unsigned_complete size (take size bytes) (length-take-le size bytes (omega (arith, len))) (All-take (λ b. b < 256) size bytes small) in
    let left : length rest ≡ n = length-drop size bytes ∙ omega (arith, len) in
    (found.0, rest, found.1, left, All-drop (λ b. b < 256) size bytes small, sym (take-append-drop size bytes) ∙ ap (λ xs. xs ++ rest) (sym found.2))
