-- What a call did to a source or a sink.
use Rattle.std.specs.Prelude.{ℕ, List, Option}

-- The bytes that a source has left or that a sink holds, if known, and its count of faults: before a call and after it.
pub record Change : Type 0 where
  pub before : Option (List ℕ)
  pub after : Option (List ℕ)
  pub faults : ℕ
  pub faults_after : ℕ

-- the change of a source or a sink between two of its states, given its content and its count of faults
abbrev pub change : {A : Type 0} → (A → Option (List ℕ)) → (A → ℕ) → A → A → Change
change told faults before after = record {
  before = told before;
  after = told after;
  faults = faults before;
  faults_after = faults after;
}
