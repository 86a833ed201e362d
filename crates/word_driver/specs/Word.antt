-- A subcommand of the program as a value, and what bytes result in under it.
use Rattle.std.specs.Prelude.{◌≡◌, ◌⊎◌, ◌+◌, ℕ, List, [], ◌∷◌, ◌++◌, length, All, Option, Some, None, Ok, Err}
use Rattle.wire_records.specs.Grammars.{BeginsWith, BeginsWithNone, encode_all}
use Rattle.wire_records.specs.Reading.{Format, Ending, EndsAs}
use Rattle.wire_records.specs.Reading as reading
use Rattle.wire_records.specs.declared.version.Version.{Version}
use Rattle.word_driver.specs.declared.fault.Fault.TheVariants.{Read, Write, Memory, NotFlow, Torn, TooLong, Stopped}
use Rattle.word_driver.specs.Ended.{Ended}

-- A subcommand goes over the units U of a file, from state to state S, and may stop for a reason B.
pub record Word (U S B : Type 0) : Type 1 where
  -- The format of its files, the bytes of their longest unit, and what it writes before the first unit, by the version.
  pub format : Format Version U
  pub longest : ℕ
  pub opens : Version → List ℕ
  -- `Steps`: the state that taking a unit leads to, and the text. `Stops`: why it stops at a unit, or at the end of the input (None), and
  -- its text there. `Closes`: its text at the end of the input, if it doesn't stop there.
  pub Steps : S → U → S → List ℕ → Type 0
  pub Stops : S → Option U → B → List ℕ → Type 0
  pub Closes : S → List ℕ → Type 0
  -- Where it may run out of memory: at a unit, or at the end of the input (None).
  pub Allocates : S → Option U → Type 0
  -- What it promises of the units that were taken, the state they lead to, and their text.
  pub Keeps : List U → S → List ℕ → Type 0

module _ {U S B : Type 0} (w : Word U S B) where
  -- the units lead, one after the other, from a state to another, and this is their text
  abbrev pub Goes : S → List U → S → List ℕ → Type 0
  Goes old [] new text = (new ≡ old) × (text ≡ [])
  Goes old (unit ∷ units) new text =
      (next : S) × (first : List ℕ) × (rest : List ℕ) × w.Steps old unit next first × Goes next units new rest × (text ≡ first ++ rest)

  -- no complete unit begins at this place, and so the reading ends in this way
  abbrev pub AtEnd : Type 0 → ℕ → List ℕ → Ending → Type 0
  AtEnd More place rest ending = BeginsWithNone w.format.units rest × EndsAs w.format More rest place ending

  -- how a subcommand ends in a state, by the bytes that are left, and its last text
  abbrev pub Halts : Type 0 → ℕ → List ℕ → S → Ended B → List ℕ → Type 0
  Halts More place rest state (Ok done) last = AtEnd More place rest reading.End × w.Closes state last
  Halts More place rest state (Err (Torn n)) last = AtEnd More place rest (reading.Torn n) × (last ≡ [])
  Halts More place rest state (Err TooLong) last = AtEnd More place rest reading.TooLong × (last ≡ [])
  Halts More place rest state (Err (Stopped why)) last =
      ((unit : U) × (more : List ℕ) × BeginsWith w.format.units rest unit more × w.Stops state (Some unit) why last)
      ⊎ (AtEnd More place rest reading.End × w.Stops state None why last)
  Halts More place rest state (Err NotFlow) last = ⊥
  Halts More place rest state (Err Read) last = ⊥
  Halts More place rest state (Err Write) last = ⊥
  Halts More place rest state (Err Memory) last = ⊥

  -- The bytes from this place on are complete units and a rest. The units lead from a state to another, and this is their text.
  pub record Passes (bytes : List ℕ) (start : S) (units : List U) (rest : List ℕ) (state : S) (text : List ℕ) : Type 0 where
    pub whole : bytes ≡ encode_all w.format.units units ++ rest
    pub each : All w.format.units.IsLawful units
    pub goes : Goes start units state text

  -- From a place and a state on, the bytes result in this end and this text.
  pub record ComesOn (More : Type 0) (place : ℕ) (bytes : List ℕ) (start : S) (ended : Ended B) (text : List ℕ) : Type 0 where
    pub units : List U
    pub rest : List ℕ
    pub state : S
    pub so_far : List ℕ
    pub last : List ℕ
    pub passes : Passes bytes start units rest state so_far
    pub halts : Halts More (place + length (encode_all w.format.units units)) rest state ended last
    pub writes : text ≡ so_far ++ last

  -- memory may run out after the units that were taken, and this is their text
  pub record LacksOn (More : Type 0) (place : ℕ) (bytes : List ℕ) (start : S) (text : List ℕ) : Type 0 where
    pub units : List U
    pub rest : List ℕ
    pub state : S
    pub passes : Passes bytes start units rest state text
    pub allocates : ((unit : U) × (more : List ℕ) × BeginsWith w.format.units rest unit more × w.Allocates state (Some unit))
        ⊎ (AtEnd More (place + length (encode_all w.format.units units)) rest reading.End × w.Allocates state None)

  -- The bytes begin with a magic, and `Holds` is true of its version, its length, the rest, and the text after the opening.
  abbrev pub Opens : (Version → ℕ → List ℕ → List ℕ → Type 0) → List ℕ → List ℕ → Type 0
  Opens Holds bytes text =
      (version : Version) × (body : List ℕ) × (following : List ℕ) × BeginsWith w.format.magics bytes version body
      × (text ≡ w.opens version ++ following) × Holds version (length (w.format.magics.encode version)) body following

  -- with the subcommand's start in a file of each version
  module _ (start : Version → S) where
    -- the end and the text that the considered bytes result in; More says whether the input has more bytes than these
    abbrev pub Comes : List ℕ → Type 0 → Ended B → List ℕ → Type 0
    Comes bytes More ended text =
        ((ended ≡ Err NotFlow) × BeginsWithNone w.format.magics bytes × (text ≡ []))
        ⊎ Opens (λ version place body following. (on : ComesOn More place body (start version) ended following) × w.Keeps on.units on.state on.so_far) bytes text

    -- the first n bytes are a magic and complete units, and this is the text of the opening and the units
    abbrev pub Passed : List ℕ → ℕ → List ℕ → Type 0
    Passed bytes n text =
        Opens (λ version place body following. (units : List U) × (rest : List ℕ) × (state : S) × Passes body (start version) units rest state following × w.Keeps units state following
        × (n ≡ place + length (encode_all w.format.units units))) bytes text

    -- memory may run out, and this is the text of the opening and the units before
    abbrev pub Lacks : List ℕ → Type 0 → List ℕ → Type 0
    Lacks bytes More text =
        Opens (λ version place body following. (on : LacksOn More place body (start version) following) × w.Keeps on.units on.state following) bytes text
