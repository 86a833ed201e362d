-- Numbers at places of bytes.
use Rattle.std.specs.Prelude.{ℕ, ◌+◌, ◌*◌, ℤ, List, [], ◌∷◌, take, drop}
use Rattle.std.specs.Int.{Width, byte_len, cast_signed}

-- the `size` bytes from a place on, or as many as there are
abbrev pub part : (place size : ℕ) → List ℕ → List ℕ
part place size bytes = take size (drop place bytes)

-- the number whose digits to the base 256 are those of n and after them these bytes
unfoldable pub digits_on : ℕ → List ℕ → ℕ
digits_on n [] = n
digits_on n (b ∷ bytes) = digits_on (n * 256 + b) bytes

-- the unsigned number that `size` bytes from a place on encode, the highest byte first
unfoldable pub unsigned_at : (size place : ℕ) → List ℕ → ℕ
unsigned_at size place bytes = digits_on 0 (part place size bytes)

-- the signed number that as many bytes as its width has encode from a place on, in two's complement
unfoldable pub signed_at : Width → (place : ℕ) → List ℕ → ℤ
signed_at w place bytes = cast_signed w (unsigned_at (byte_len w) place bytes)
