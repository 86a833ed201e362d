-- Numbers from their bytes.
use mir.Val.{bits}
use Rattle.std.proofs.Common.{◌≡◌, ◌+◌, ◌-◌, ◌*◌, ◌/◌, ◌%◌, ◌^◌, ◌<◌, ◌≤◌, ℕ, zero, suc, List, [], ◌∷◌, ◌++◌, ℤ, pos, negsuc, of_z, w32, w64, length, take, drop, length-drop, refl, sym, ap, ◌∙◌, subst, arith}
use Rattle.std.specs.Prelude.{All}
use Rattle.std.specs.Int.{Width, cast_signed, w128}
use Rattle.std.proofs.lemmas.Int.{ints, of_z-to_z}
use Rattle.std.proofs.lemmas.Nat.{pow-add}
use Rattle.std.proofs.lemmas.List.{take-append-drop, length-take-le}
use Rattle.std.proofs.lemmas.List.Elements.{All-take, All-drop}
use Rattle.std.proofs.Math.Seq.{take-append_seam}
use Rattle.wire_fields.specs.Numbers.{unsigned, signed, IsUnsigned, IsSigned}
use Rattle.wire_fields.proofs.Encoding.{length-unsigned, unsigned_complete}
use Rattle.byte_places.specs.Places.{part, digits_on, unsigned_at, signed_at}

-- one more digit
one_digit_more : (n : ℕ) (bytes : List ℕ) (b : ℕ) → digits_on n (bytes ++ b ∷ []) ≡ digits_on n bytes * 256 + b
unfolding digits_on
one_digit_more n [] b = refl
one_digit_more n (a ∷ bytes) b = one_digit_more (n * 256 + a) bytes b

-- one more byte is worth 256 times as much
worth_more : (size : ℕ) → 2 ^ (8 * suc size) ≡ 2 ^ (8 * size) * 256
worth_more size = let e : 8 * suc size ≡ 8 * size + 8 = omega arith in ap (λ k. 2 ^ k) e ∙ pow-add 2 (8 * size) 8

-- the digits of a number's encoding are the number
pub digits_back : (size n : ℕ) → IsUnsigned size n → digits_on 0 (unsigned size n) ≡ n
unfolding digits_on unsigned
digits_back zero n fits = omega (arith, fits)
digits_back (suc size) n fits =
    let high = digits_back size (n / 256) (omega (arith, fits, worth_more size)) in
    one_digit_more 0 (unsigned size (n / 256)) (n % 256) ∙ ap (λ k. k * 256 + n % 256) high ∙ omega arith

-- bytes are the encoding of the number of their digits, which is in range
digits_encoded : (size : ℕ) (bytes : List ℕ) → length bytes ≡ size → All (λ b. b < 256) bytes → IsUnsigned size (digits_on 0 bytes) × (unsigned size (digits_on 0 bytes) ≡ bytes)
digits_encoded size bytes len small =
    let found = unsigned_complete size bytes len small in
    let same : digits_on 0 bytes ≡ found.0 = ap (digits_on 0) (sym found.2) ∙ digits_back size found.0 found.1 in
    (subst (IsUnsigned size) (sym same) found.1, ap (unsigned size) same ∙ found.2)

-- the length of so many bytes from a place on, if they are there
pub length-part : (place size : ℕ) (bytes : List ℕ) → place + size ≤ length bytes → length (part place size bytes) ≡ size
length-part place size bytes there = length-take-le size (drop place bytes) (omega (arith, there, length-drop place bytes))

-- so many bytes from a place on are bytes
pub All-part : (place size : ℕ) (bytes : List ℕ) → All (λ b. b < 256) bytes → All (λ b. b < 256) (part place size bytes)
All-part place size bytes small = All-take (λ b. b < 256) size (drop place bytes) (All-drop (λ b. b < 256) place bytes small)

-- the value that so many bytes at a place encode, and that it is in range
pub record IsEncodedAt {A : Type 0} (Fits : A → Type 0) (encode : A → List ℕ) (size place : ℕ) (bytes : List ℕ) (value : A) : Type 0 where
  pub fits : Fits value
  pub encoded : encode value ≡ part place size bytes

-- an unsigned number
pub unsigned_encoded : (size place : ℕ) (bytes : List ℕ) → place + size ≤ length bytes → All (λ b. b < 256) bytes → IsEncodedAt (IsUnsigned size) (unsigned size) size place bytes (unsigned_at size place bytes)
unfolding unsigned_at
unsigned_encoded size place bytes there small =
    let found = digits_encoded size (part place size bytes) (length-part place size bytes there) (All-part place size bytes small) in
    record { fits = found.0; encoded = found.1 }

-- two's complement is the encoding of the cast to the unsigned type
stored : (size : ℕ) (w : Width) → 256 ^ size ≡ 2 ^ bits w → (z : ℤ) → signed size z ≡ unsigned size (of_z w z)
unfolding signed
stored size w same (pos n) = refl
stored size w same (negsuc n) = ap (λ p. unsigned size (p - suc n)) same

-- the bytes of a number that was cast to a signed type
cast_encoded : (size : ℕ) (w : Width) → 256 ^ size ≡ 2 ^ bits w → (n : ℕ) → n < 2 ^ bits w → signed size (cast_signed w n) ≡ unsigned size n
cast_encoded size w same n fits = stored size w same (cast_signed w n) ∙ ap (unsigned size) (of_z-to_z w n fits)

-- a signed number of 4 bytes
pub signed_encoded_4 : (place : ℕ) (bytes : List ℕ) → place + 4 ≤ length bytes → All (λ b. b < 256) bytes → IsEncodedAt (IsSigned 4) (signed 4) 4 place bytes (signed_at w32 place bytes)
unfolding signed_at
signed_encoded_4 place bytes there small =
    let n = unsigned_at 4 place bytes in
    let found = unsigned_encoded 4 place bytes there small in
    let small_n : n < 2 ^ 32 = found.fits in
    record { fits = (omega (arith, ints), omega (arith, ints)); encoded = cast_encoded 4 w32 refl n small_n ∙ found.encoded }

-- a signed number of 8 bytes
pub signed_encoded_8 : (place : ℕ) (bytes : List ℕ) → place + 8 ≤ length bytes → All (λ b. b < 256) bytes → IsEncodedAt (IsSigned 8) (signed 8) 8 place bytes (signed_at w64 place bytes)
unfolding signed_at
signed_encoded_8 place bytes there small =
    let n = unsigned_at 8 place bytes in
    let found = unsigned_encoded 8 place bytes there small in
    let small_n : n < 2 ^ 64 = found.fits in
    record { fits = (omega (arith, ints), omega (arith, ints)); encoded = cast_encoded 8 w64 refl n small_n ∙ found.encoded }

-- a signed number of 16 bytes
pub signed_encoded_16 : (place : ℕ) (bytes : List ℕ) → place + 16 ≤ length bytes → All (λ b. b < 256) bytes → IsEncodedAt (IsSigned 16) (signed 16) 16 place bytes (signed_at w128 place bytes)
unfolding signed_at
signed_encoded_16 place bytes there small =
    let n = unsigned_at 16 place bytes in
    let found = unsigned_encoded 16 place bytes there small in
    let small_n : n < 2 ^ 128 = found.fits in
    record { fits = (omega (arith, ints), omega (arith, ints)); encoded = cast_encoded 16 w128 refl n small_n ∙ found.encoded }

-- the number at a place where its encoding is
pub unsigned_here : (size place n : ℕ) (bytes rest : List ℕ) → IsUnsigned size n → drop place bytes ≡ unsigned size n ++ rest → unsigned_at size place bytes ≡ n
unfolding unsigned_at
unsigned_here size place n bytes rest fits here =
    let prefix : take size (unsigned size n ++ rest) ≡ unsigned size n = ap (λ k. take k (unsigned size n ++ rest)) (sym (length-unsigned size n)) ∙ take-append_seam (unsigned size n) rest in
    ap (λ xs. digits_on 0 (take size xs)) here ∙ ap (digits_on 0) prefix ∙ digits_back size n fits

-- if a value is encoded at a place, the bytes from there on begin with its encoding
pub begins_with : {A : Type 0} (Fits : A → Type 0) (encode : A → List ℕ) (size place : ℕ) (bytes old : List ℕ) (value : A) → IsEncodedAt Fits encode size place bytes value → old ≡ drop place bytes → old ≡ encode value ++ drop size (drop place bytes)
begins_with Fits encode size place bytes old value at is =
    is ∙ sym (take-append-drop size (drop place bytes)) ∙ ap (λ xs. xs ++ drop size (drop place bytes)) (sym at.encoded)
