-- The command lines that ask for a kept journal.
use Rattle.std.specs.Prelude.{◌≡◌, ℕ, List, [], ◌∷◌, codes}

-- the words of the command line, each as its bytes, are `keep` and this file
abbrev pub AskKeep : List (List ℕ) → List ℕ → Type 0
AskKeep words file = words ≡ codes "keep" ∷ file ∷ []

-- the words of the command line, each as its bytes, are `serve` and this file
abbrev pub AskServe : List (List ℕ) → List ℕ → Type 0
AskServe words file = words ≡ codes "serve" ∷ file ∷ []

-- the words of the command line, each as its bytes, are `host` and this file
abbrev pub AskHost : List (List ℕ) → List ℕ → Type 0
AskHost words file = words ≡ codes "host" ∷ file ∷ []
