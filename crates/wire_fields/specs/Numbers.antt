-- How a number is encoded in bytes: big-endian, and in two's complement if it is signed.
use Rattle.std.specs.Prelude.{ℕ, zero, suc, ◌-◌, ◌*◌, ◌/◌, ◌%◌, ◌^◌, ◌<◌, List, [], ◌∷◌, ◌++◌, ℤ, pos, negsuc, neg_ℤ, ◌≤ℤ◌, ◌<ℤ◌}

-- the `size` bytes of an unsigned number, the highest first; of a number that is too large, the lowest `size` bytes
unfoldable pub unsigned : ℕ → ℕ → List ℕ
unsigned zero n = []
unsigned (suc size) n = unsigned size (n / 256) ++ (n % 256) ∷ []

-- the `size` bytes of a signed number in two's complement: a negative one, here -(n + 1), is encoded as itself plus 256 ^ size
unfoldable pub signed : ℕ → ℤ → List ℕ
signed size (pos n) = unsigned size n
signed size (negsuc n) = unsigned size (256 ^ size - suc n)

-- n is an unsigned number of `size` bytes
abbrev pub IsUnsigned : ℕ → ℕ → Type 0
IsUnsigned size n = n < 2 ^ (8 * size)

-- z is a signed number of `size` bytes
abbrev pub IsSigned : ℕ → ℤ → Type 0
IsSigned size z = (neg_ℤ (pos (2 ^ (8 * size - 1))) ≤ℤ z) × (z <ℤ pos (2 ^ (8 * size - 1)))
