-- What an output got.
use Rattle.std.specs.Prelude.{◌≡◌, ℕ, ◌≤◌, List, [], ◌++◌, Option, length, take}
use Rattle.std.specs.List.{flat_map}
use Rattle.flow_io.specs.Streams.{Grows}

-- an output: the bytes that it holds, and those of each call, if they are known, and its count of faults
pub record Output : Type 0 where
  pub held : Option (List ℕ)
  pub calls : Option (List (List ℕ))
  pub faults : ℕ

-- what an output is, given what it holds, its calls and its count of faults
abbrev pub output : {K : Type 0} → (K → Option (List ℕ)) → (K → Option (List (List ℕ))) → (K → ℕ) → K → Output
output held calls faults out = record { held = held out; calls = calls out; faults = faults out }

-- An output was handed these texts, each by one call, and gained them, all complete; only if a write was cut short, it may have a prefix of the last
-- one instead of it.
pub record Gains (Cut : Type 0) (old new : Output) (texts : List (List ℕ)) : Type 0 where
  pub called : Grows old.calls new.calls texts
  pub whole : List (List ℕ)
  pub last : List (List ℕ)
  pub parts : texts ≡ whole ++ last
  pub one : length last ≤ 1
  pub none : ¬ Cut → last ≡ []
  pub count : ℕ
  pub written : Grows old.held new.held (flat_map (λ text. text) whole ++ take count (flat_map (λ text. text) last))
