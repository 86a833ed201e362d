-- The room of a book.
use Rattle.std.proofs.Common.{ℕ, ◌≤◌, min, ◌/◌, arith}

-- a book's room, the least of three, isn't less if none of the three is
pub room_kept : (space left table space' left' table' : ℕ) → space ≤ space' → left ≤ left' → table ≤ table' → min (min space left) (table / 17) ≤ min (min space' left') (table' / 17)
room_kept space left table space' left' table' spaces lefts tables = omega (arith, spaces, lefts, tables)
