-- What std reads from an array of bytes and writes to one, at any number of bytes.
use Rattle.std.proofs.Common.{◌≡◌, ℕ, zero, suc, ◌+◌, ◌-◌, ◌*◌, ◌/◌, ◌%◌, ◌^◌, ◌<◌, ◌≤◌, List, [], ◌∷◌, ◌++◌, length, take, get_or, ℤ, pos, negsuc, FitsSigned, of_z, to_z, add-one, refl, sym, ap, ◌∙◌, arith}
use mir.Val.{bits}
use Rattle.std.specs.Int.{Width, byte_at, byte_worth, bytes_high_first, sum_through}
use Rattle.std.proofs.lemmas.List.{take_more, take_all}
use Rattle.std.proofs.lemmas.Int.{to_z-of_z, of_z-to_z}
use Rattle.std.proofs.lemmas.Nat.{div-mul-add, mod-mul-add}
use Rattle.std.proofs.Math.Nat as nat
use Rattle.wire_fields.specs.Numbers.{unsigned, signed}

byte_at-high : (k n : ℕ) → byte_at k (n / 256) ≡ byte_at (suc k) n
byte_at-high zero n = refl
byte_at-high (suc k) n =
    ap (λ m. m % 256) (nat.div-div-eq-div-mul n 256 (256 ^ suc k) ∙ ap (λ p. n / p) (nat.mul_comm 256 (256 ^ suc k) ∙ sym (nat.pow-suc 256 (suc k))))

unsigned_head : (k n : ℕ) → unsigned (suc k) n ≡ byte_at k n ∷ unsigned k n
unfolding unsigned
unsigned_head zero n = refl
unsigned_head (suc k) n =
    ap (λ prefix. prefix ++ n % 256 ∷ []) (unsigned_head k (n / 256)) ∙ ap (λ b. b ∷ (unsigned k (n / 256) ++ n % 256 ∷ [])) (byte_at-high k n)

-- what `to_be_bytes` writes
pub bytes_high_first_is : (k n : ℕ) → bytes_high_first k n ≡ unsigned k n
unfolding unsigned
bytes_high_first_is zero n = refl
bytes_high_first_is (suc k) n = ap (λ rest. byte_at k n ∷ rest) (bytes_high_first_is k n) ∙ sym (unsigned_head k n)

byte_worth-more : (k b : ℕ) → byte_worth (suc k) b ≡ byte_worth k b * 256
byte_worth-more zero b = refl
byte_worth-more (suc k) b = ap (λ p. b * p) (nat.pow-suc 256 (suc k)) ∙ sym (nat.mul_assoc b (256 ^ suc k) 256)

sum_through-scaled : (f g : ℕ → ℕ) (k : ℕ) → ((i : ℕ) → i ≤ k → g i ≡ f i * 256) → sum_through g k ≡ sum_through f k * 256
sum_through-scaled f g zero h = h 0 (omega arith)
sum_through-scaled f g (suc k) h = omega (arith, sum_through-scaled f g k (λ i l. h i (omega arith)), h (suc k) (omega arith))

encoded_more : (size n b : ℕ) (prefix : List ℕ) → b < 256 → unsigned size n ≡ prefix → unsigned (suc size) (n * 256 + b) ≡ prefix ++ b ∷ []
unfolding unsigned
encoded_more size n b prefix small e =
    rw (div-mul-add n 256 b small, mod-mul-add n 256 b small, e) refl

-- the first k + 1 bytes as a number
abbrev read_of : List ℕ → ℕ → ℕ
read_of bytes k = sum_through (λ i. byte_worth (k - i) (get_or bytes i 0)) k

read_of-suc : (bytes : List ℕ) (k : ℕ) → read_of bytes (suc k) ≡ read_of bytes k * 256 + get_or bytes (suc k) 0
read_of-suc bytes k =
    let worth = λ (j i : ℕ). byte_worth (j - i) (get_or bytes i 0) in
    let higher = λ (i : ℕ) (l : i ≤ k). let e : suc k - i ≡ suc (k - i) = omega arith in ap (λ j. byte_worth j (get_or bytes i 0)) e ∙ byte_worth-more (k - i) (get_or bytes i 0) in
    let none : suc k - suc k ≡ 0 = omega arith in
    let prefix = sum_through-scaled (worth k) (worth (suc k)) k higher in
    let last = ap (λ j. byte_worth j (get_or bytes (suc k) 0)) none in
    ap (λ n. n + worth (suc k) (suc k)) prefix ∙ ap (λ n. read_of bytes k * 256 + n) last

-- the bytes of what `from_be_bytes` reads are the first k + 1 bytes
pub read_of_is : (bytes : List ℕ) → ((i : ℕ) → get_or bytes i 0 < 256) → (k : ℕ) → k < length bytes → unsigned (suc k) (read_of bytes k) ≡ take (suc k) bytes
unfolding unsigned
read_of_is bytes small zero l =
    let b = get_or bytes 0 0 in
    let first : take 1 bytes ≡ b ∷ [] = take_more bytes 0 0 l in
    let same : b % 256 ≡ b = omega (arith, small 0) in
    ap (λ n. n ∷ []) same ∙ sym first
read_of_is bytes small (suc k) l =
    let prefix = read_of_is bytes small k (omega arith) in
    let b = get_or bytes (suc k) 0 in
    let next : take (suc (suc k)) bytes ≡ take (suc k) bytes ++ b ∷ [] = rw (← add-one) (take_more bytes (suc k) 0 l) in
    ap (unsigned (suc (suc k))) (read_of-suc bytes k) ∙ encoded_more (suc k) (read_of bytes k) b (take (suc k) bytes) (small (suc k)) prefix ∙ sym next

-- the bytes of what `from_be_bytes` reads from an array of k + 1 bytes are that array
pub read_whole : (bytes : List ℕ) (k n : ℕ) → ((i : ℕ) → get_or bytes i 0 < 256) → length bytes ≡ suc k → n ≡ read_of bytes k → unsigned (suc k) n ≡ bytes
read_whole bytes k n small whole read =
    ap (unsigned (suc k)) read ∙ read_of_is bytes small k (omega arith) ∙ take_all (suc k) bytes (omega arith)

-- two's complement is the encoding of the cast to the unsigned type
signed_is_cast : (size : ℕ) (w : Width) → 256 ^ size ≡ 2 ^ bits w → (z : ℤ) → signed size z ≡ unsigned size (of_z w z)
unfolding signed
signed_is_cast size w same (pos n) = refl
signed_is_cast size w same (negsuc n) = ap (λ p. unsigned size (p - suc n)) same

pub written_signed : (size : ℕ) (w : Width) → 256 ^ size ≡ 2 ^ bits w → (z : ℤ) (n : ℕ) (bytes : List ℕ) → FitsSigned w z → n ≡ of_z w (to_z w (of_z w z)) → bytes ≡ unsigned size n → bytes ≡ signed size z
written_signed size w same z n bytes fits cast written =
    written ∙ ap (unsigned size) (cast ∙ ap (of_z w) (to_z-of_z w z fits)) ∙ sym (signed_is_cast size w same z)

pub read_signed : (size : ℕ) (w : Width) → 256 ^ size ≡ 2 ^ bits w → (z : ℤ) (n : ℕ) (bytes : List ℕ) → n < 2 ^ bits w → z ≡ to_z w n → unsigned size n ≡ bytes → signed size (to_z w (of_z w z)) ≡ bytes
read_signed size w same z n bytes fits cast read =
    let back : of_z w z ≡ n = ap (of_z w) cast ∙ of_z-to_z w n fits in
    let again : of_z w (to_z w (of_z w z)) ≡ n = ap (λ m. of_z w (to_z w m)) back ∙ of_z-to_z w n fits in
    signed_is_cast size w same (to_z w (of_z w z)) ∙ ap (unsigned size) again ∙ read
