-- What bytes begin with.
use Rattle.std.specs.Prelude.{◌≡◌, ◌≢◌, ◌<◌, ◌≤◌, ℕ, List, [], ◌++◌, length, drop}
use Rattle.wire_records.specs.declared.record.Framed.{Framed}
use Rattle.wire_records.specs.declared.record.Framed.TheVariants.{Whole, End, TooLarge, Short}
use Rattle.wire_records.specs.Records.{IsRecord, encoding, StatesLength, HasNoPrefix}

-- what bytes begin with, under a limit on bodies; by the law `OnePrefix`, no two of the four cases hold for the same bytes
abbrev pub IsPrefix : Framed → ℕ → List ℕ → Type 0
IsPrefix (Whole r taken) limit bytes = IsRecord limit r × (taken ≡ length (encoding r)) × (bytes ≡ encoding r ++ drop taken bytes)
IsPrefix End limit bytes = bytes ≡ []
IsPrefix (TooLarge n) limit bytes = StatesLength n bytes × (limit < n)
IsPrefix Short limit bytes = (bytes ≢ []) × HasNoPrefix limit bytes × ((n : ℕ) → StatesLength n bytes → n ≤ limit)
