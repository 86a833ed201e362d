-- What a subcommand hands to its output, call by call.
use Rattle.std.specs.Prelude.{◌≡◌, ◌⊎◌, ℕ, List, [], ◌∷◌, ◌++◌, Option, Some, None}
use Rattle.wire_records.specs.declared.version.Version.{Version}
use Rattle.word_driver.specs.Word.{Word}

-- the calls that hand over a text: one, or none if it is empty
abbrev pub piece : List ℕ → List (List ℕ)
piece [] = []
piece (x ∷ xs) = (x ∷ xs) ∷ []

module _ {U S B : Type 0} (w : Word U S B) where
  -- the units lead from a state to another, and these are the pieces of their texts, at most one for each unit
  abbrev pub HasPieces : S → List U → S → List (List ℕ) → Type 0
  HasPieces old [] new pieces = (new ≡ old) × (pieces ≡ [])
  HasPieces old (unit ∷ units) new pieces =
      (next : S) × (text : List ℕ) × (rest : List (List ℕ)) × w.Steps old unit next text × HasPieces next units new rest × (pieces ≡ piece text ++ rest)

  -- a text that is written at a unit or at the end
  abbrev pub IsWriting : S → Option U → List ℕ → Type 0
  IsWriting old (Some unit) text = ((new : S) × w.Steps old unit new text) ⊎ ((why : B) × w.Stops old (Some unit) why text)
  IsWriting old None text = w.Closes old text ⊎ ((why : B) × w.Stops old None why text)

  -- The pieces of what follows the opening: one for the text of each unit, and one for the last text.
  pub record GoesOnBy (start : S) (pieces : List (List ℕ)) : Type 0 where
    pub units : List U
    pub state : S
    pub taken : List (List ℕ)
    pub at : Option U
    pub last : List ℕ
    pub goes : HasPieces start units state taken
    pub ends : (last ≡ []) ⊎ IsWriting state at last
    pub all : pieces ≡ taken ++ piece last

  -- by the subcommand's start: no piece, or one for the opening, one for the text of each unit, and one for the last text
  abbrev pub IsByPieces : (Version → S) → List (List ℕ) → Type 0
  IsByPieces start pieces = (pieces ≡ []) ⊎ ((version : Version) × (following : List (List ℕ)) × GoesOnBy (start version) following × (pieces ≡ piece (w.opens version) ++ following))
