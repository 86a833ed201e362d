-- Grammars: which values have an encoding in bytes, and what it is.
use Rattle.std.specs.Prelude.{◌≡◌, ◌≢◌, ℕ, List, ◌++◌}
use Rattle.std.specs.List.{flat_map}

-- the values that may be in bytes, and the encoding of each
pub record Grammar (A : Type 0) : Type 1 where
  pub IsLawful : A → Type 0
  pub encode : A → List ℕ

-- the bytes begin with the encoding of this value, and this is the rest
abbrev pub BeginsWith : {A : Type 0} → Grammar A → List ℕ → A → List ℕ → Type 0
BeginsWith g bytes a rest = g.IsLawful a × (bytes ≡ g.encode a ++ rest)

-- the bytes begin with the encoding of no value
abbrev pub BeginsWithNone : {A : Type 0} → Grammar A → List ℕ → Type 0
BeginsWithNone {A} g bytes = (a : A) (rest : List ℕ) → g.IsLawful a → bytes ≢ g.encode a ++ rest

-- the encodings of values, one after the other
abbrev pub encode_all : {A : Type 0} → Grammar A → List A → List ℕ
encode_all g values = flat_map g.encode values

-- two values, the encoding of the second right after that of the first
abbrev pub both : {A B : Type 0} → Grammar A → Grammar B → Grammar (A × B)
both first second = record {
  IsLawful = λ pair. first.IsLawful pair.0 × second.IsLawful pair.1;
  encode = λ pair. first.encode pair.0 ++ second.encode pair.1;
}
