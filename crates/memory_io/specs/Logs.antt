use Rattle.std.specs.Prelude.{ℕ, List}
use Rattle.memory_io.specs.Disk.{Made}

-- a record of calls: the calls, how many there may be, how many bytes its writes may have, how many they have, and how many calls there are
pub record LogState : Type 0 where
  pub made : List Made
  pub most : ℕ
  pub room : ℕ
  pub used : ℕ
  pub count : ℕ
