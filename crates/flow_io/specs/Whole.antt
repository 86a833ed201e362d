-- What reading a source to its end, up to a limit, gives.
use Rattle.std.specs.Prelude.{◌≡◌, ◌<◌, ◌↔◌, ℕ, List, IsTrue, take, length}
use Rattle.flow_io.specs.declared.whole.WholeInput.{WholeInput}

-- what is read from a source that has the bytes `left`: all of them up to the limit, and whether there are more
pub record IsWholeInput (limit : ℕ) (left : List ℕ) (input : WholeInput) : Type 0 where
  pub bytes : input.bytes.items ≡ take limit left
  pub more : IsTrue input.more ↔ (limit < length left)
