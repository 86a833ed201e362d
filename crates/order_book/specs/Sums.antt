-- The sums of what orders reserve, as they are kept: those that aren't 0.
use Rattle.std.specs.Prelude.{◌≡◌, ◌≢◌, ℕ, ◌+◌, Bool, if◌then◌else◌, Some, unwrap_or}
use Rattle.std.specs.declared.hash.FoldHasher.{FoldHasher}
use Rattle.std.specs.declared.hash.BuildHasherDefault.{BuildHasherDefault}
use Rattle.indexmap.specs.IndexMap.{IndexMap, get}
use Rattle.order_book.specs.declared.sums.Need.{Need}
use Rattle.order_book.specs.contracts.sums.NeedPartialEq.TheImpl as need_eq

-- whether two needs are the same
abbrev pub same_need : Need → Need → Bool
same_need = (need_eq.ghosts).eq

-- a table of sums, by need
abbrev pub Table : Type 0
Table = IndexMap Need ℕ (BuildHasherDefault FoldHasher)

-- the sum of a need, 0 if none is kept
abbrev pub sum_in : Table → Need → ℕ
sum_in table need = unwrap_or (get same_need table need) 0

-- no sum of 0 is kept
abbrev pub HasNoZeros : Table → Type 0
HasNoZeros table = (need : Need) → get same_need table need ≢ Some 0

-- the sum of one need grew by the amount, and no other changed
abbrev pub RaisesAt : Table → Table → Need → ℕ → Type 0
RaisesAt old new need amount = (other : Need) → sum_in new other ≡ sum_in old other + (if same_need need other then amount else 0)

-- the sum of one need fell by the amount, and no other changed
abbrev pub LowersAt : Table → Table → Need → ℕ → Type 0
LowersAt old new need amount = (other : Need) → sum_in new other + (if same_need need other then amount else 0) ≡ sum_in old other
