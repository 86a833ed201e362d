-- Fields of a body, one after the other: how each is encoded, and whether its value fits.
use Rattle.std.specs.Prelude.{◌≡◌, ℕ, ℤ, List, length}
use Rattle.wire_fields.specs.Numbers.{unsigned, signed, IsUnsigned, IsSigned}
use Rattle.wire_records.specs.Records.{AreBytes}

-- a field of so many bytes: a number without a sign, a number with a sign, or the bytes themselves
pub data Field : Type 0 where
  Unsigned : (size n : ℕ) → Field
  Signed : (size : ℕ) (z : ℤ) → Field
  Bytes : (size : ℕ) (bytes : List ℕ) → Field

-- the bytes of a field
abbrev pub field_bytes : Field → List ℕ
field_bytes (Unsigned size n) = unsigned size n
field_bytes (Signed size z) = signed size z
field_bytes (Bytes size bytes) = bytes

-- the value of a field fits its size
abbrev pub FitsField : Field → Type 0
FitsField (Unsigned size n) = IsUnsigned size n
FitsField (Signed size z) = IsSigned size z
FitsField (Bytes size bytes) = (length bytes ≡ size) × AreBytes bytes
