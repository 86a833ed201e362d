-- Amounts by line: money, and units of each asset.
use Rattle.std.specs.Prelude.{◌≡◌, ℕ, ◌-◌, List, [], ◌∷◌, ◌++◌, length, replicate}
use Rattle.std.specs.List.{All}

-- a line: an amount of money, and one of each asset
pub record Line (M U : Type 0) : Type 0 where
  pub money : M
  pub units : List U

-- lines by their numbers, counted from 0, with an amount of each of so many assets; `none` is that of an asset in a new line, and
-- `room` says for how many lines there is memory
pub record Table (M U : Type 0) : Type 0 where
  pub assets : ℕ
  pub lines : List (Line M U)
  pub none : U
  pub room : ℕ

module _ {M U : Type 0} where
  -- a line with this money, and none of so many assets
  abbrev pub new_line : ℕ → M → U → Line M U
  new_line assets money none = record { money = money; units = replicate assets none }

  -- a line with none of one asset more
  abbrev pub with_place : U → Line M U → Line M U
  with_place none l = record l { units = l.units ++ none ∷ [] }

-- rows one after the other, each filled up to so many places
abbrev pub laid : {U : Type 0} → U → ℕ → List (List U) → List U
laid none places [] = []
laid none places (row ∷ rows) = row ++ (replicate (places - length row) none ++ laid none places rows)

-- each row has so many amounts
abbrev pub HasWidth : {U : Type 0} → ℕ → List (List U) → Type 0
HasWidth {U} width rows = All (λ (row : List U). length row ≡ width) rows
