-- Laws of the encodings of numbers, for the crates whose formats are made of numbers.
use Rattle.std.specs.Prelude.{◌≡◌, ℕ, ◌<◌, List, ◌++◌, length, All, ℤ}
use Rattle.wire_fields.specs.Numbers.{unsigned, signed, IsUnsigned, IsSigned}

-- the encoding of an unsigned number in `size` bytes has that length
abbrev pub UnsignedLength : Type 0
UnsignedLength = (size n : ℕ) → length (unsigned size n) ≡ size

-- the encoding of a signed number in `size` bytes has that length
abbrev pub SignedLength : Type 0
SignedLength = (size : ℕ) (z : ℤ) → length (signed size z) ≡ size

-- the encoding of an unsigned number is made of bytes
abbrev pub UnsignedBytes : Type 0
UnsignedBytes = (size n : ℕ) → All (λ b. b < 256) (unsigned size n)

-- the encoding of a signed number is made of bytes
abbrev pub SignedBytes : Type 0
SignedBytes = (size : ℕ) (z : ℤ) → All (λ b. b < 256) (signed size z)

-- bytes begin with the encoding of at most one unsigned number of a size, and have one rest after it
abbrev pub UnsignedUnique : Type 0
UnsignedUnique =
    (size m n : ℕ) (x y : List ℕ) → IsUnsigned size m → IsUnsigned size n → unsigned size m ++ x ≡ unsigned size n ++ y → (m ≡ n) × (x ≡ y)

-- bytes begin with the encoding of at most one signed number of a size, of at least one byte, and have one rest after it
abbrev pub SignedUnique : Type 0
SignedUnique =
    (size : ℕ) (a b : ℤ) (x y : List ℕ) → 0 < size → IsSigned size a → IsSigned size b → signed size a ++ x ≡ signed size b ++ y → (a ≡ b) × (x ≡ y)

-- any bytes encode an unsigned number
abbrev pub UnsignedComplete : Type 0
UnsignedComplete =
    (size : ℕ) (bytes : List ℕ) → length bytes ≡ size → All (λ b. b < 256) bytes → (n : ℕ) × IsUnsigned size n × (unsigned size n ≡ bytes)

-- any bytes, at least one, encode a signed number
abbrev pub SignedComplete : Type 0
SignedComplete =
    (size : ℕ) (bytes : List ℕ) → 0 < size → length bytes ≡ size → All (λ b. b < 256) bytes → (z : ℤ) × IsSigned size z × (signed size z ≡ bytes)
