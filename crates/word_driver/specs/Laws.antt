-- Laws of subcommands, whatever code there is.
use Rattle.std.specs.Prelude.{◌≡◌, ◌⊎◌, ◌≤◌, ◌^◌, ℕ, List, [], ◌++◌, length, All, Option, Some, None}
use Rattle.wire_records.specs.declared.version.Version.{Version}
use Rattle.wire_records.proofs.ReadingLaws.{IsReadable}
use Rattle.file_units.specs.Inputs.{HasLongest}
use Rattle.word_driver.specs.Ended.{Ended}
use Rattle.word_driver.specs.Word.{Word, Goes}
use Rattle.word_driver.specs.Does.{task}

-- A subcommand is exact if its files can be read, each unit and the end of the input lead to at most one result with one text, and none both
-- leads on (or closes) and stops. Each magic has eight bytes, and a window of at most 2^20 bytes has room for the longest unit.
pub record IsExact {U S B : Type 0} (w : Word U S B) : Type 0 where
  pub readable : IsReadable w.format
  pub short : ¬ w.format.IsOverlong []
  pub magic : (version : Version) → length (w.format.magics.encode version) ≡ 8
  pub longest : HasLongest w.format w.longest
  pub some : 8 ≤ w.longest
  pub few : w.longest ≤ 2 ^ 20
  pub one_step : (s : S) (u : U) (t r : S) (x y : List ℕ) → w.Steps s u t x → w.Steps s u r y → (t ≡ r) × (x ≡ y)
  pub one_stop : (s : S) (at : Option U) (b c : B) (x y : List ℕ) → w.Stops s at b x → w.Stops s at c y → (b ≡ c) × (x ≡ y)
  pub one_close : (s : S) (x y : List ℕ) → w.Closes s x → w.Closes s y → x ≡ y
  pub steps_or_stops : (s : S) (u : U) (t : S) (b : B) (x y : List ℕ) → w.Steps s u t x → w.Stops s (Some u) b y → ⊥
  pub closes_or_stops : (s : S) (b : B) (x y : List ℕ) → w.Closes s x → w.Stops s None b y → ⊥

-- the subcommand keeps what it promises of all units that it passes from its start
abbrev pub IsKept : {U S B : Type 0} → Word U S B → (Version → S) → Type 0
IsKept {U} {S} {B} w start = (version : Version) (units : List U) (s : S) (x : List ℕ)
    → All w.format.units.IsLawful units → Goes w (start version) units s x → w.Keeps units s x

-- bytes result in at most one end and one text
abbrev pub OneEnd : {U S B : Type 0} → Word U S B → (Version → S) → Type 0
OneEnd {U} {S} {B} w start = (limit : ℕ) (bytes : List ℕ) (ended other : Ended B) (x y : List ℕ)
    → (task w start).Comes limit bytes ended x → (task w start).Comes limit bytes other y → (ended ≡ other) × (x ≡ y)

-- a text that some first bytes result in if more follow, or after which memory ran out, is a prefix of the text of all bytes
abbrev pub BegunIsAPrefix : {U S B : Type 0} → Word U S B → (Version → S) → Type 0
BegunIsAPrefix {U} {S} {B} w start = (limit : ℕ) (bytes : List ℕ) (n : ℕ) (ended : Ended B) (begun text : List ℕ)
    → (task w start).Begins limit bytes n begun ⊎ (task w start).Lacks limit bytes begun → (task w start).Comes limit bytes ended text → (rest : List ℕ) × (text ≡ begun ++ rest)

-- A isn't refuted: its double negation
abbrev pub IsNotDenied : Type 0 → Type 0
IsNotDenied A = (A → ⊥) → ⊥

-- A subcommand has a next step in each state that it reaches: a unit leads on or makes it stop, and at the end it closes or stops.
pub record HasNext {U S B : Type 0} (w : Word U S B) (start : Version → S) : Type 0 where
  pub some_step : (version : Version) (units : List U) (s : S) (x : List ℕ) (u : U) → Goes w (start version) units s x → w.format.units.IsLawful u
      → IsNotDenied (((t : S) × (y : List ℕ) × w.Steps s u t y) ⊎ ((why : B) × (y : List ℕ) × w.Stops s (Some u) why y))
  pub some_close : (version : Version) (units : List U) (s : S) (x : List ℕ) → Goes w (start version) units s x
      → IsNotDenied (((y : List ℕ) × w.Closes s y) ⊎ ((why : B) × (y : List ℕ) × w.Stops s None why y))

-- no bytes are without an end
abbrev pub SomeEnd : {U S B : Type 0} → Word U S B → (Version → S) → Type 0
SomeEnd {U} {S} {B} w start = (limit : ℕ) (bytes : List ℕ) → ¬ ((ended : Ended B) (text : List ℕ) → ¬ (task w start).Comes limit bytes ended text)
