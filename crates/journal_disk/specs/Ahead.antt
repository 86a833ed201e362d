-- A piece of a disk that was read ahead.
use Rattle.std.specs.Prelude.{◌≡◌, ◌+◌, ◌-◌, ◌≤◌, ℕ, List, length, take, drop}

-- a piece of a disk: its bytes, the place at which it begins, and how many bytes the disk has
pub record AheadState : Type 0 where
  pub held : List ℕ
  pub from : ℕ
  pub size : ℕ

-- the piece is one of these bytes
pub record IsPiece (ahead : AheadState) (bytes : List ℕ) : Type 0 where
  pub long : ahead.size ≡ length bytes
  pub inside : ahead.from + length ahead.held ≤ length bytes
  pub piece : ahead.held ≡ take (length ahead.held) (drop ahead.from bytes)

-- the piece has the bytes at this place, so many of them
abbrev pub HoldsPart : ℕ → ℕ → AheadState → Type 0
HoldsPart place count ahead = (ahead.from ≤ place) × (place + count ≤ ahead.from + length ahead.held)

-- the bytes of a piece at this place, so many of them
abbrev pub part_of : AheadState → ℕ → ℕ → List ℕ
part_of ahead place count = take count (drop (place - ahead.from) ahead.held)
