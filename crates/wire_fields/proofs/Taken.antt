-- What was put is taken again: what a read gives if the bytes are known to begin with an encoding.
use mir.Val.{hbits}
use Rattle.std.proofs.Common.{◌≡◌, ℕ, ◌-◌, ◌*◌, ◌<◌, List, ◌++◌, length, ℤ, FitsSigned, to_z, of_z, Option, Some, sym, ap, ◌∙◌, arith}
use Rattle.std.specs.Int.{Width}
use Rattle.std.proofs.lemmas.Int.{to_z-of_z}
use Rattle.std.proofs.lemmas.List.{length-append}
use Rattle.wire_fields.specs.Numbers.{unsigned, signed, IsUnsigned, IsSigned}
use Rattle.wire_fields.proofs.Encoding.{length-unsigned, length-signed, unsigned_unique, signed_unique, IsSigned-from_fits}

-- bytes that begin with `prefix` aren't fewer than it has
too_few : {P : Type 0} (size : ℕ) (old prefix rest : List ℕ) → length prefix ≡ size → length old < size → old ≡ prefix ++ rest → P
too_few size old prefix rest whole few e = absurd (omega (arith, ap length e, length-append prefix rest))

pub few_unsigned : (size : ℕ) (old new : List ℕ) (result : Option ℕ) → length old < size → (n : ℕ) (rest : List ℕ) → IsUnsigned size n → old ≡ unsigned size n ++ rest → (result ≡ Some n) × (new ≡ rest)
few_unsigned size old new result few n rest in_n e =
    too_few size old (unsigned size n) rest (length-unsigned size n) few e

pub few_signed : (size : ℕ) (old new : List ℕ) (result : Option ℤ) → length old < size → (z : ℤ) (rest : List ℕ) → IsSigned size z → old ≡ signed size z ++ rest → (result ≡ Some z) × (new ≡ rest)
few_signed size old new result few z rest in_z e =
    too_few size old (signed size z) rest (length-signed size z) few e

pub same_unsigned : (size m : ℕ) (bytes old new : List ℕ) → IsUnsigned size m → unsigned size m ≡ bytes → old ≡ bytes ++ new → (n : ℕ) (rest : List ℕ) → IsUnsigned size n → old ≡ unsigned size n ++ rest → (Some m ≡ Some n) × (new ≡ rest)
same_unsigned size m bytes old new in_m encoded found n rest in_n e =
    let same = unsigned_unique size m n new rest in_m in_n (ap (λ prefix. prefix ++ new) encoded ∙ sym found ∙ e) in
    (ap Some same.0, same.1)

same_signed : (size : ℕ) (a : ℤ) (bytes old new : List ℕ) → 0 < size → IsSigned size a → signed size a ≡ bytes → old ≡ bytes ++ new → (z : ℤ) (rest : List ℕ) → IsSigned size z → old ≡ signed size z ++ rest → (Some a ≡ Some z) × (new ≡ rest)
same_signed size a bytes old new some in_a encoded found z rest in_z e =
    let same = signed_unique size a z new rest some in_a in_z (ap (λ prefix. prefix ++ new) encoded ∙ sym found ∙ e) in
    (ap Some same.0, same.1)

-- what a read gives, as the code returns the number: cast to the unsigned type and back
pub read_again : (size : ℕ) (w : Width) → 0 < size → hbits w ≡ 8 * size - 1 → (a : ℤ) (bytes old new : List ℕ) → FitsSigned w a → signed size a ≡ bytes → old ≡ bytes ++ new → (z : ℤ) (rest : List ℕ) → IsSigned size z → old ≡ signed size z ++ rest → (Some (to_z w (of_z w a)) ≡ Some z) × (new ≡ rest)
read_again size w some whole a bytes old new fits encoded found z rest in_z e =
    let in_a = IsSigned-from_fits size w whole a fits in
    let same = same_signed size a bytes old new some in_a encoded found z rest in_z e in
    (ap Some (to_z-of_z w a fits) ∙ same.0, same.1)
