-- A text that is appended to a list.
use Rattle.std.specs.Prelude.{ℕ, List}

-- a list as it was before a text: its bytes, and its capacity
pub record Before : Type 0 where
  pub items : List ℕ
  pub room : ℕ

-- a list with a text appended to it: the list as it was before, and the text
pub record Appended : Type 0 where
  pub before : Before
  pub text : List ℕ
