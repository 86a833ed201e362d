-- Taking the units of a file one after the other: what is done with each, and how that ends.
use Rattle.std.specs.Prelude.{◌≡◌, ◌≢◌, ◌-◌, ◌<◌, ℕ, List, [], ◌∷◌, ◌++◌, length, drop, All}
use Rattle.wire_records.specs.Grammars.{BeginsWithNone, encode_all}
use Rattle.wire_records.specs.Reading.{Format, ReadsOn}
use Rattle.wire_records.specs.Reading as reading
use Rattle.file_units.specs.declared.units.Prefix.{Prefix}
use Rattle.file_units.specs.declared.units.Prefix.TheVariants.{Taken, NoBytes, Overlong, Short}
use Rattle.file_units.specs.declared.units.Ending.{Ending}
use Rattle.file_units.specs.declared.units.Ending.TheVariants.{End, Torn, TooLong}

-- the ending of a reading, as the definitions of `wire_records` have it
abbrev pub ending_of : Ending → reading.Ending
ending_of End = reading.End
ending_of (Torn place) = reading.Torn place
ending_of TooLong = reading.TooLong

-- a format, and what taking a unit does to a state and to an output
module _ {V U S O : Type 0} (format : Format V U) (Steps : S → U → S → O → O → Type 0) where
  -- The bytes begin with a complete unit, and it was taken.
  pub record TakesOne (taken : ℕ) (bytes : List ℕ) (old new : S) (before after : O) : Type 0 where
    pub unit : U
    pub lawful : format.units.IsLawful unit
    pub size : taken ≡ length (format.units.encode unit)
    pub some : 0 < taken
    pub prefix : bytes ≡ format.units.encode unit ++ drop taken bytes
    pub step : Steps old unit new before after

  -- The bytes begin with no complete unit, and nothing was done.
  pub record TakesNone (bytes : List ℕ) (old new : S) (before after : O) : Type 0 where
    pub none : BeginsWithNone format.units bytes
    pub state : new ≡ old
    pub output : after ≡ before

  -- what was taken and done, by what the bytes begin with
  abbrev pub IsTaken : Prefix → List ℕ → S → S → O → O → Type 0
  IsTaken (Taken n) bytes old new before after = TakesOne n bytes old new before after
  IsTaken NoBytes bytes old new before after = TakesNone bytes old new before after × (bytes ≡ []) × (¬ format.IsOverlong bytes)
  IsTaken Overlong bytes old new before after = TakesNone bytes old new before after × format.IsOverlong bytes
  IsTaken Short bytes old new before after = TakesNone bytes old new before after × (bytes ≢ []) × (¬ format.IsOverlong bytes)

  -- taking units, one after the other, leads from a state and an output to others
  abbrev pub Leads : S → O → List U → S → O → Type 0
  Leads old before [] new after = (new ≡ old) × (after ≡ before)
  Leads old before (unit ∷ units) new after = (next : S) × (between : O) × Steps old unit next before between × Leads next between units new after

  -- All complete units were taken, and the reading ends so.
  pub record GoesToEnd (place : ℕ) (More : Type 0) (bytes : List ℕ) (ending : reading.Ending) (old new : S) (before after : O) : Type 0 where
    pub units : List U
    pub reads : ReadsOn format place More bytes units ending
    pub leads : Leads old before units new after

module _ {V U S O F : Type 0} (format : Format V U) (Breaks : S → U → F → O → O → Type 0) where
  -- Taking the unit that the bytes begin with breaks off with a fault.
  pub record BreaksOff (bytes : List ℕ) (old : S) (fault : F) (before after : O) : Type 0 where
    pub unit : U
    pub rest : List ℕ
    pub lawful : format.units.IsLawful unit
    pub prefix : bytes ≡ format.units.encode unit ++ rest
    pub broken : Breaks old unit fault before after

module _ {V U S O F : Type 0} (format : Format V U) (Steps : S → U → S → O → O → Type 0) (Breaks : S → U → F → O → O → Type 0) where
  -- Some units were taken, and taking the next one broke off.
  pub record GoesToBreak (bytes : List ℕ) (fault : F) (old : S) (before after : O) : Type 0 where
    pub units : List U
    pub left : List ℕ
    pub middle : S
    pub between : O
    pub begins : bytes ≡ encode_all format.units units ++ left
    pub each : All format.units.IsLawful units
    pub leads : Leads format Steps old before units middle between
    pub breaks : BreaksOff format Breaks left middle fault between after

-- a taker that is ready while so many bytes are left still is, after the unit that was taken
abbrev pub StaysReady : (ℕ → Type 0) → Prefix → ℕ → Type 0
StaysReady IsReady (Taken n) left = IsReady (left - n)
StaysReady IsReady NoBytes left = IsReady left
StaysReady IsReady Overlong left = IsReady left
StaysReady IsReady Short left = IsReady left
