-- How a file is read: its magic, its complete units, and what follows the last of them.
use Rattle.std.specs.Prelude.{◌≡◌, ◌≢◌, ◌<◌, ◌+◌, ℕ, List, [], ◌++◌, length, take, ◌⊎◌, All}
use Rattle.wire_records.specs.Grammars.{Grammar, BeginsWith, BeginsWithNone, encode_all}

-- A kind of file: the magic of each version, the units that follow it, and which bytes begin
-- with a unit whose stated length is above its limit.
pub record Format (V U : Type 0) : Type 1 where
  pub magics : Grammar V
  pub units : Grammar U
  pub IsOverlong : List ℕ → Type 0

-- how a reading ends: with the input, before a unit at this place that is truncated or too long, or at the limit
pub data Ending : Type 0 where
  End : Ending
  Torn : ℕ → Ending
  TooLong : Ending

-- which ending a reading has: by the rest after the complete units, which begins at this place, and by whether
-- the input has more after that
abbrev pub EndsAs : {V U : Type 0} → Format V U → Type 0 → List ℕ → ℕ → Ending → Type 0
EndsAs format More rest place End = (¬ format.IsOverlong rest) × (¬ More) × (rest ≡ [])
EndsAs format More rest place TooLong = (¬ format.IsOverlong rest) × More
EndsAs format More rest place (Torn n) = (n ≡ place) × (format.IsOverlong rest ⊎ ((¬ More) × (rest ≢ [])))

-- The bytes from this place on are these units, one after the other, and a rest that begins with none.
pub record ReadsOn {V U : Type 0} (format : Format V U) (place : ℕ) (More : Type 0) (bytes : List ℕ) (units : List U) (ending : Ending) : Type 0 where
  pub rest : List ℕ
  pub whole : bytes ≡ encode_all format.units units ++ rest
  pub each : All format.units.IsLawful units
  pub none : BeginsWithNone format.units rest
  pub ends : EndsAs format More rest (place + length (encode_all format.units units)) ending

-- what an input holds: no file of this kind, or a version's magic, complete units, and an ending
pub data Reading (V U : Type 0) : Type 0 where
  NotFlow : Reading V U
  File : V → List U → Ending → Reading V U

-- what the first limit bytes hold
abbrev pub Reads : {V U : Type 0} → Format V U → ℕ → List ℕ → Reading V U → Type 0
Reads format limit bytes NotFlow = BeginsWithNone format.magics (take limit bytes)
Reads format limit bytes (File version units ending) =
    (body : List ℕ)
    × BeginsWith format.magics (take limit bytes) version body
    × ReadsOn format (length (format.magics.encode version)) (limit < length bytes) body units ending

-- These units are the first of those in the first limit bytes.
pub record StartsWith {V U : Type 0} (format : Format V U) (limit : ℕ) (bytes : List ℕ) (version : V) (units : List U) : Type 0 where
  pub body : List ℕ
  pub rest : List ℕ
  pub magic : BeginsWith format.magics (take limit bytes) version body
  pub whole : body ≡ encode_all format.units units ++ rest
  pub each : All format.units.IsLawful units
