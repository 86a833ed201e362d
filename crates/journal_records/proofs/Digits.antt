-- Numbers and fills from their bytes.
use Rattle.std.proofs.Common.{◌≡◌, ◌+◌, ◌*◌, ◌/◌, ◌%◌, ◌^◌, ◌<◌, ℕ, zero, suc, List, [], ◌∷◌, ◌++◌, ℤ, pos, negsuc, of_z, w64, length, take, drop, length-drop, refl, sym, ap, ◌∙◌, subst, arith}
use Rattle.std.specs.Int.{cast_signed}
use Rattle.std.proofs.lemmas.Int.{ints, of_z-to_z}
use Rattle.std.proofs.lemmas.Nat.{pow-add}
use Rattle.std.proofs.lemmas.List.{take-append-drop, length-take-le}
use Rattle.std.proofs.lemmas.List.Elements.{All-take, All-drop}
use Rattle.wire_fields.specs.Numbers.{unsigned, signed, IsUnsigned, IsSigned}
use Rattle.wire_fields.proofs.Encoding.{length-signed, signed_unique, unsigned_complete}
use Rattle.wire_records.specs.Records.{AreBytes}
use Rattle.journal_records.specs.Bodies.{fill_encoding, IsFill}
use Rattle.journal_records.specs.Private.{digits_on, sign_in, fill_in}
use Rattle.journal_records.proofs.Batches.{fill_unique, fill_size}
use Rattle.journal_records.proofs.Values.{IsFixed}

-- one more digit
one_digit_more : (n : ℕ) (bytes : List ℕ) (b : ℕ) → digits_on n (bytes ++ b ∷ []) ≡ digits_on n bytes * 256 + b
unfolding digits_on
one_digit_more n [] b = refl
one_digit_more n (a ∷ bytes) b = one_digit_more (n * 256 + a) bytes b

-- one more byte is worth 256 times as much
worth_more : (size : ℕ) → 2 ^ (8 * suc size) ≡ 2 ^ (8 * size) * 256
worth_more size = let e : 8 * suc size ≡ 8 * size + 8 = omega arith in ap (λ k. 2 ^ k) e ∙ pow-add 2 (8 * size) 8

-- the digits of a number's encoding are the number
digits_back : (size n : ℕ) → IsUnsigned size n → digits_on 0 (unsigned size n) ≡ n
unfolding digits_on unsigned
digits_back zero n fits = omega (arith, fits)
digits_back (suc size) n fits =
    let high = digits_back size (n / 256) (omega (arith, fits, worth_more size)) in
    one_digit_more 0 (unsigned size (n / 256)) (n % 256) ∙ ap (λ k. k * 256 + n % 256) high ∙ omega arith

-- bytes are the encoding of the number of their digits, which fits
digits_encoded : (size : ℕ) (bytes : List ℕ) → length bytes ≡ size → AreBytes bytes → IsUnsigned size (digits_on 0 bytes) × (unsigned size (digits_on 0 bytes) ≡ bytes)
digits_encoded size bytes len small =
    let found = unsigned_complete size bytes len small in
    let same : digits_on 0 bytes ≡ found.0 = ap (digits_on 0) (sym found.2) ∙ digits_back size found.0 found.1 in
    (subst (IsUnsigned size) (sym same) found.1, ap (unsigned size) same ∙ found.2)

-- two's complement in eight bytes
stored : (z : ℤ) → signed 8 z ≡ unsigned 8 (of_z w64 z)
unfolding signed
stored (pos n) = refl
stored (negsuc n) = refl

-- the number with a sign of a number without one
sign_fits : (n : ℕ) → n < 2 ^ 64 → IsSigned 8 (cast_signed w64 n)
sign_fits n small = (omega (arith, ints), omega (arith, ints))

-- eight bytes encode their number with a sign
sign_encoded : (bytes : List ℕ) → length bytes ≡ 8 → AreBytes bytes → IsSigned 8 (sign_in bytes) × (signed 8 (sign_in bytes) ≡ bytes)
sign_encoded bytes len small =
    let n = digits_on 0 bytes in
    let digits = digits_encoded 8 bytes len small in
    (sign_fits n digits.0, stored (cast_signed w64 n) ∙ ap (unsigned 8) (of_z-to_z w64 n digits.0) ∙ digits.1)

-- twelve bytes encode their fill
fill_encoded : (bytes : List ℕ) → length bytes ≡ 12 → AreBytes bytes → IsFill (fill_in bytes) × (fill_encoding (fill_in bytes) ≡ bytes)
unfolding fill_encoding
fill_encoded bytes len small =
    let order = digits_encoded 8 (take 8 bytes) (length-take-le 8 bytes (omega (arith, len))) (All-take (λ b. b < 256) 8 bytes small) in
    let left : length (drop 8 bytes) ≡ 4 = length-drop 8 bytes ∙ omega (arith, len) in
    let rate = digits_encoded 4 (drop 8 bytes) left (All-drop (λ b. b < 256) 8 bytes small) in
    ((order.0, rate.0), ap (λ xs. xs ++ unsigned 4 (digits_on 0 (drop 8 bytes))) order.1 ∙ ap (λ xs. take 8 bytes ++ xs) rate.1 ∙ take-append-drop 8 bytes)

-- numbers with a sign, of eight bytes each
pub fixed_signs : IsFixed (IsSigned 8) (signed 8) sign_in 8
fixed_signs = record {
  size_is = length-signed 8;
  one = λ a b x y h k e. signed_unique 8 a b x y (omega arith) h k e;
  fits = λ bytes len small. (sign_encoded bytes len small).0;
  encoded = λ bytes len small. (sign_encoded bytes len small).1;
}

-- fills, of twelve bytes each
pub fixed_fills : IsFixed IsFill fill_encoding fill_in 12
fixed_fills = record {
  size_is = fill_size;
  one = fill_unique;
  fits = λ bytes len small. (fill_encoded bytes len small).0;
  encoded = λ bytes len small. (fill_encoded bytes len small).1;
}
