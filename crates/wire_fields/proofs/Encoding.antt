-- Lemmas of the encodings of numbers.
use mir.Val.{hbits}
use Rattle.std.specs.Int.{Width}
use Rattle.std.proofs.Common.{FitsSigned, ◌≡◌, ℕ, zero, suc, ◌+◌, ◌-◌, ◌*◌, ◌/◌, ◌%◌, ◌^◌, ◌<◌, ◌≤◌, List, [], ◌∷◌, ◌++◌, length, take, get_or, All, ℤ, pos, negsuc, ⊎_elim, refl, sym, ap, ◌∙◌, append_assoc, arith}
use Rattle.std.proofs.lemmas.List.{length-append, take_more, take_all, length-take-le}
use Rattle.std.proofs.lemmas.List.Elements.{All-push, All-take, All-nil}
use Rattle.std.proofs.lemmas.Nat.{pow-add, div-mul-add, mod-mul-add}
use Rattle.std.proofs.lemmas.Int.{ints}
use Rattle.std.proofs.lemmas.Bool.{cases_lt}
use Rattle.std.proofs.Math.Nat as nat
use Rattle.wire_fields.specs.Numbers.{unsigned, signed, IsUnsigned, IsSigned}

-- one more byte is worth 256 times as much
pow_more : (size : ℕ) → 2 ^ (8 * suc size) ≡ 2 ^ (8 * size) * 256
pow_more size = let e : 8 * suc size ≡ 8 * size + 8 = omega arith in ap (λ k. 2 ^ k) e ∙ pow-add 2 (8 * size) 8

-- the range in bytes and the range in bits are the same
bytes_bits : (size : ℕ) → 256 ^ size ≡ 2 ^ (8 * size)
bytes_bits zero = refl
bytes_bits (suc size) = nat.pow-suc 256 size ∙ ap (λ k. k * 256) (bytes_bits size) ∙ sym (pow_more size)

pub length-unsigned : (size n : ℕ) → length (unsigned size n) ≡ size
unfolding unsigned
length-unsigned zero n = refl
length-unsigned (suc size) n =
    omega (arith, length-append (unsigned size (n / 256)) (n % 256 ∷ []), length-unsigned size (n / 256))

pub All-unsigned : (size n : ℕ) → All (λ b. b < 256) (unsigned size n)
unfolding unsigned
All-unsigned zero n = All-nil (λ b. b < 256)
All-unsigned (suc size) n =
    All-push (λ b. b < 256) (unsigned size (n / 256)) (n % 256) (All-unsigned size (n / 256)) (omega arith)

high_in_range : (size n : ℕ) → IsUnsigned (suc size) n → IsUnsigned size (n / 256)
high_in_range size n h = omega (arith, pow_more size)

same_heads : (a b : ℕ) (x y : List ℕ) → a ∷ x ≡ b ∷ y → (a ≡ b) × (x ≡ y)
same_heads a b x y e = (cc, cc)

pub unsigned_unique : (size m n : ℕ) (x y : List ℕ) → IsUnsigned size m → IsUnsigned size n → unsigned size m ++ x ≡ unsigned size n ++ y → (m ≡ n) × (x ≡ y)
unfolding unsigned
unsigned_unique zero m n x y in_m in_n e = (omega arith, e)
unsigned_unique (suc size) m n x y in_m in_n e =
    let regrouped = sym (append_assoc (unsigned size (m / 256)) (m % 256 ∷ []) x) ∙ e ∙ append_assoc (unsigned size (n / 256)) (n % 256 ∷ []) y in
    let high = unsigned_unique size (m / 256) (n / 256) (m % 256 ∷ x) (n % 256 ∷ y) (high_in_range size m in_m) (high_in_range size n in_n) regrouped in
    let low = same_heads (m % 256) (n % 256) x y high.1 in
    (omega (arith, high.0, low.0), low.1)

encoded_more : (size n b : ℕ) (prefix : List ℕ) → b < 256 → unsigned size n ≡ prefix → unsigned (suc size) (n * 256 + b) ≡ prefix ++ b ∷ []
unfolding unsigned
encoded_more size n b prefix small e =
    rw (div-mul-add n 256 b small, mod-mul-add n 256 b small, e) refl

pub unsigned_complete : (size : ℕ) (bytes : List ℕ) → length bytes ≡ size → All (λ b. b < 256) bytes → (n : ℕ) × IsUnsigned size n × (unsigned size n ≡ bytes)
unfolding unsigned
unsigned_complete zero [] l small = (0, omega arith, refl)
unsigned_complete zero (b ∷ bytes) l small = absurd (omega arith)
unsigned_complete (suc size) bytes l small =
    let prefix = take size bytes in
    let last = get_or bytes size 0 in
    let found = unsigned_complete size prefix (length-take-le size bytes (omega arith)) (All-take (λ b. b < 256) size bytes small) in
    let below : last < 256 = small size 0 (omega arith) in
    let whole : prefix ++ last ∷ [] ≡ bytes = sym (take_more bytes size 0 (omega arith)) ∙ take_all (size + 1) bytes (omega arith) in
    (found.0 * 256 + last, omega (arith, pow_more size, found.1), encoded_more size found.0 last prefix below found.2 ∙ whole)

-- the unsigned number that has the same bytes
stored : ℕ → ℤ → ℕ
stored size (pos n) = n
stored size (negsuc n) = 256 ^ size - suc n

signed_is : (size : ℕ) (z : ℤ) → signed size z ≡ unsigned size (stored size z)
unfolding signed stored
signed_is size (pos n) = refl
signed_is size (negsuc n) = refl

pub length-signed : (size : ℕ) (z : ℤ) → length (signed size z) ≡ size
length-signed size z = ap length (signed_is size z) ∙ length-unsigned size (stored size z)

pub All-signed : (size : ℕ) (z : ℤ) → All (λ b. b < 256) (signed size z)
All-signed size z = rw (signed_is size z) (All-unsigned size (stored size z))

-- half of the numbers of `size` bytes are negative
half : (size : ℕ) → 0 < size → 256 ^ size ≡ 2 ^ (8 * size - 1) * 2
half size some =
    let e : 8 * size ≡ 8 * size - 1 + 1 = omega arith in
    bytes_bits size ∙ ap (λ k. 2 ^ k) e ∙ pow-add 2 (8 * size - 1) 1

stored_in_range : (size : ℕ) (z : ℤ) → 0 < size → IsSigned size z → IsUnsigned size (stored size z)
unfolding stored
stored_in_range size (pos n) some in_z = omega (arith, ints, half size some, bytes_bits size)
stored_in_range size (negsuc n) some in_z = omega (arith, ints, half size some, bytes_bits size)

same_stored : (size : ℕ) (a b : ℤ) → 0 < size → IsSigned size a → IsSigned size b → stored size a ≡ stored size b → a ≡ b
unfolding stored
same_stored size (pos m) (pos n) some in_a in_b e = ap pos e
same_stored size (pos m) (negsuc n) some in_a in_b e = absurd (omega (arith, ints, half size some))
same_stored size (negsuc m) (pos n) some in_a in_b e = absurd (omega (arith, ints, half size some))
same_stored size (negsuc m) (negsuc n) some in_a in_b e = let f : m ≡ n = omega (arith, ints, half size some) in ap negsuc f

pub signed_unique : (size : ℕ) (a b : ℤ) (x y : List ℕ) → 0 < size → IsSigned size a → IsSigned size b → signed size a ++ x ≡ signed size b ++ y → (a ≡ b) × (x ≡ y)
signed_unique size a b x y some in_a in_b e =
    let encoded : unsigned size (stored size a) ++ x ≡ unsigned size (stored size b) ++ y = rw (signed_is size a, signed_is size b) at e in
    let same = unsigned_unique size (stored size a) (stored size b) x y (stored_in_range size a some in_a) (stored_in_range size b some in_b) encoded in
    (same_stored size a b some in_a in_b same.0, same.1)

of_stored : (size n : ℕ) → 0 < size → IsUnsigned size n → (z : ℤ) × IsSigned size z × (stored size z ≡ n)
unfolding stored
of_stored size n some in_n =
    ⊎_elim
    (λ (below : n < 2 ^ (8 * size - 1)). (pos n, (omega (arith, ints), omega (arith, ints)), refl))
    (λ (above : 2 ^ (8 * size - 1) ≤ n). (negsuc (256 ^ size - suc n), (omega (arith, ints, half size some, bytes_bits size), omega (arith, ints)), omega (arith, half size some, bytes_bits size)))
    (cases_lt n (2 ^ (8 * size - 1)))

pub signed_complete : (size : ℕ) (bytes : List ℕ) → 0 < size → length bytes ≡ size → All (λ b. b < 256) bytes → (z : ℤ) × IsSigned size z × (signed size z ≡ bytes)
signed_complete size bytes some l small =
    let found = unsigned_complete size bytes l small in
    let z = of_stored size found.0 some found.1 in
    (z.0, z.1, signed_is size z.0 ∙ ap (unsigned size) z.2 ∙ found.2)

-- the range of a signed type, as the code knows it, is the range of signed numbers of its bytes
pub IsSigned-from_fits : (size : ℕ) (w : Width) → hbits w ≡ 8 * size - 1 → (z : ℤ) → FitsSigned w z → IsSigned size z
IsSigned-from_fits size w whole z fits =
    let range = ap (λ k. 2 ^ k) whole in
    (omega (arith, ints), omega (arith, ints))

pub FitsSigned-from_signed : (size : ℕ) (w : Width) → hbits w ≡ 8 * size - 1 → (z : ℤ) → IsSigned size z → FitsSigned w z
FitsSigned-from_signed size w whole z in_z =
    let range = ap (λ k. 2 ^ k) whole in
    let least = in_z.0 in
    let most = in_z.1 in
    omega (arith, ints)

-- for `omega`: the lengths of encodings
pub ruleset lengths = (length-unsigned, length-signed)
