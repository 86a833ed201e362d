-- Legs in bytes, six each.
use Rattle.std.proofs.Common.{◌≡◌, ◌+◌, ◌*◌, ◌%◌, ◌<◌, ℕ, zero, suc, List, [], ◌∷◌, ◌++◌, ℤ, pos, negsuc, of_z, w32, length, get_or, drop, refl, sym, ap, ◌∙◌, arith}
use Rattle.std.specs.List.{flat_map}
use Rattle.std.specs.Int.{cast_signed}
use Rattle.std.proofs.lemmas.Int.{ints, of_z-to_z}
use Rattle.std.proofs.lemmas.Nat.{div-mul-add, mod-mul-add}
use Rattle.std.proofs.lemmas.List.{drop-drop, drop_at, drop_more, drop_all}
use Rattle.std.proofs.lemmas.List.Elements.{All-nil, All-cons, All-drop}
use Rattle.wire_fields.specs.Numbers.{unsigned, signed}
use Rattle.weight_rows.specs.declared.entries.Entry.{Entry}
use Rattle.wire_records.specs.Records.{AreBytes}
use Rattle.wire_records.specs.Bodies.{entry_encoding, IsEntry}
use Rattle.wire_records.specs.Private.{entry_in, entries_in, EncodeEntries}
use Rattle.wire_records.proofs.CodeLaws.{counted_size}
use Rattle.wire_records.proofs.Requests.{entry_size}

-- a number of one more byte
number_more : (size n b : ℕ) → b < 256 → unsigned (suc size) (n * 256 + b) ≡ unsigned size n ++ b ∷ []
unfolding unsigned
number_more size n b small = rw (div-mul-add n 256 b small, mod-mul-add n 256 b small) refl

-- one byte is itself
one_byte : (b : ℕ) → b < 256 → unsigned 1 b ≡ b ∷ []
unfolding unsigned
one_byte b small = let same : b % 256 ≡ b = omega arith in ap (λ n. n ∷ []) same

-- two's complement in four bytes
stored : (z : ℤ) → signed 4 z ≡ unsigned 4 (of_z w32 z)
unfolding signed
stored (pos n) = refl
stored (negsuc n) = refl

-- the bytes of a weight
weight_encoded : (c d e f : ℕ) → c < 256 → d < 256 → e < 256 → f < 256 → signed 4 (cast_signed w32 (((c * 256 + d) * 256 + e) * 256 + f)) ≡ c ∷ d ∷ e ∷ f ∷ []
weight_encoded c d e f small_c small_d small_e small_f =
    let n = ((c * 256 + d) * 256 + e) * 256 + f in
    stored (cast_signed w32 n) ∙ ap (unsigned 4) (of_z-to_z w32 n (omega arith))
    ∙ number_more 3 ((c * 256 + d) * 256 + e) f small_f
    ∙ ap (λ xs. xs ++ f ∷ []) (number_more 2 (c * 256 + d) e small_e)
    ∙ ap (λ xs. (xs ++ e ∷ []) ++ f ∷ []) (number_more 1 c d small_d)
    ∙ ap (λ xs. ((xs ++ d ∷ []) ++ e ∷ []) ++ f ∷ []) (one_byte c small_c)

-- the bytes of a leg
entry_encoded : (a b c d e f : ℕ) → a < 256 → b < 256 → c < 256 → d < 256 → e < 256 → f < 256 → entry_encoding (entry_in a b c d e f) ≡ a ∷ b ∷ c ∷ d ∷ e ∷ f ∷ []
unfolding entry_encoding
entry_encoded a b c d e f small_a small_b small_c small_d small_e small_f =
    ap (λ xs. xs ++ signed 4 (cast_signed w32 (((c * 256 + d) * 256 + e) * 256 + f))) (number_more 1 a b small_b ∙ ap (λ xs. xs ++ b ∷ []) (one_byte a small_a))
    ∙ ap (λ xs. a ∷ b ∷ xs) (weight_encoded c d e f small_c small_d small_e small_f)

-- the numbers of a leg are in the ranges of their fields
entry_fits : (a b c d e f : ℕ) → a < 256 → b < 256 → c < 256 → d < 256 → e < 256 → f < 256 → IsEntry (entry_in a b c d e f)
entry_fits a b c d e f small_a small_b small_c small_d small_e small_f = (omega arith, (omega (arith, ints), omega (arith, ints)))

-- bytes, six for each leg, encode the legs that are read from them
pub entries_encoded : (n : ℕ) (bytes : List ℕ) → length bytes ≡ 6 * n → AreBytes bytes → EncodeEntries bytes (entries_in bytes)
unfolding entries_in
entries_encoded zero [] len small = record { fit = All-nil IsEntry; encoded = refl }
entries_encoded (suc n) (a ∷ b ∷ c ∷ d ∷ e ∷ f ∷ rest) len small =
    let others = entries_encoded n rest (omega arith) (All-drop (λ n. n < 256) 6 (a ∷ b ∷ c ∷ d ∷ e ∷ f ∷ rest) small) in
    let small_a : a < 256 = small 0 0 (omega arith) in
    let small_b : b < 256 = small 1 0 (omega arith) in
    let small_c : c < 256 = small 2 0 (omega arith) in
    let small_d : d < 256 = small 3 0 (omega arith) in
    let small_e : e < 256 = small 4 0 (omega arith) in
    let small_f : f < 256 = small 5 0 (omega arith) in
    record {
      fit = All-cons IsEntry (entry_in a b c d e f) (entries_in rest) (entry_fits a b c d e f small_a small_b small_c small_d small_e small_f) others.fit;
      encoded =
          ap (λ xs. a ∷ b ∷ c ∷ d ∷ e ∷ f ∷ xs) others.encoded
          ∙ ap (λ xs. xs ++ flat_map entry_encoding (entries_in rest)) (sym (entry_encoded a b c d e f small_a small_b small_c small_d small_e small_f));
    }
entries_encoded n bytes len small = absurd (omega arith)

-- the bytes from a place on
from_place : (k : ℕ) (row : List Entry) → drop (6 * k) (flat_map entry_encoding row) ≡ flat_map entry_encoding (drop k row)
from_place zero row = refl
from_place (suc k) [] = drop_all (6 * suc k) [] (omega arith)
from_place (suc k) (e ∷ row) =
    let split : 6 * suc k ≡ 6 + 6 * k = omega arith in
    ap (λ n. drop n (entry_encoding e ++ flat_map entry_encoding row)) split
    ∙ sym (drop-drop (6 * k) 6 (entry_encoding e ++ flat_map entry_encoding row))
    ∙ ap (drop (6 * k)) (drop_at (entry_encoding e) (flat_map entry_encoding row) 6 (entry_size e))
    ∙ from_place k row

-- the leg at a place
pub at_place : (bytes : List ℕ) (row : List Entry) (k : ℕ) (e : Entry) → EncodeEntries bytes row → k < length row → drop (6 * k) bytes ≡ entry_encoding (get_or row k e) ++ flat_map entry_encoding (drop (k + 1) row)
at_place bytes row k e encodes in' =
    ap (drop (6 * k)) encodes.encoded ∙ from_place k row ∙ ap (flat_map entry_encoding) (drop_more row k e in')

-- how many bytes legs take
pub length-entries : (bytes : List ℕ) (row : List Entry) → EncodeEntries bytes row → length bytes ≡ 6 * length row
length-entries bytes row encodes = ap length encodes.encoded ∙ counted_size entry_encoding 6 entry_size row
