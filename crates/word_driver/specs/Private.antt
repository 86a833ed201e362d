-- Definitions of the driver's parts: what a subcommand at work answers, and what going through units has written.
use Rattle.std.specs.Prelude.{◌≡◌, ◌⊎◌, ◌-◌, ◌+◌, ◌<◌, ◌≤◌, ◌^◌, ℕ, List, [], ◌++◌, length, take, drop, Bool, true, false, Option, Some, None, IfSome, Result, Ok, Err}
use Rattle.flow_io.specs.Faults.{Blames}
use Rattle.flow_io.specs.Streams.{Takes, Grows, GrowsByPrefix, HandsOver}
use Rattle.flow_io.specs.Windows.{WindowState}
use Rattle.flow_io.specs.Changes.{Change}
use Rattle.wire_records.specs.Grammars.{BeginsWith, BeginsWithNone, encode_all}
use Rattle.wire_records.specs.declared.version.Version.{Version}
use Rattle.file_units.specs.declared.units.Prefix.{Prefix}
use Rattle.file_units.specs.Units.{IsTaken}
use Rattle.file_units.specs.Inputs.{known}
use Rattle.word_driver.specs.declared.fault.Fault.{Fault}
use Rattle.word_driver.specs.declared.fault.Fault.TheVariants.{Read, Write, Memory, NotFlow, Torn, TooLong, Stopped}
use Rattle.word_driver.specs.declared.fault.Halt.{Halt}
use Rattle.word_driver.specs.declared.fault.Halt.TheVariants as halt
use Rattle.word_driver.specs.Ended.{Ended}
use Rattle.word_driver.specs.Pieces.{piece, GoesOnBy, IsByPieces, IsWriting}
use Rattle.word_driver.specs.Word.{Word, Passes, ComesOn, LacksOn, Comes, Lacks, Passed}

-- the bytes begin with the magic of this version, of eight bytes, and the subcommand is at its start
pub record OpensAt {U S B : Type 0} (w : Word U S B) (start : Version → S) (bytes : List ℕ) (state : S) (IsReady : ℕ → Type 0) (text : List ℕ) : Type 0 where
  pub version : Version
  pub magic : BeginsWith w.format.magics bytes version (drop 8 bytes)
  pub starts : state ≡ start version
  pub opening : text ≡ w.opens version
  pub ready : (limit : ℕ) → limit < 2 ^ 64 → IsReady (limit - 8)

-- the subcommand is open, or the bytes begin with no magic
abbrev pub OpensOrNot : {U S B : Type 0} → Word U S B → (Version → S) → List ℕ → S → (ℕ → Type 0) → List ℕ → Bool → Type 0
OpensOrNot w start bytes state IsReady text true = OpensAt w start bytes state IsReady text
OpensOrNot w start bytes state IsReady text false = BeginsWithNone w.format.magics bytes

-- the unit at the beginning of the bytes was taken, and the buffer holds its text
abbrev pub IsTakenBy : {U S B : Type 0} → Word U S B → Prefix → List ℕ → S → S → List ℕ → Type 0
IsTakenBy w prefix bytes old new text = IsTaken w.format (λ old unit new (before after : List ℕ). w.Steps old unit new after) prefix bytes old new [] text

-- what the buffer holds if a subcommand stops early, at a unit or at the end: nothing is said of it if memory ran out
abbrev pub HaltsWith : {U S B : Type 0} → Word U S B → S → Option U → Halt B → List ℕ → Type 0
HaltsWith w old at halt.Memory text = w.Allocates old at
HaltsWith w old at (halt.Stopped why) text = w.Stops old at why text

-- the subcommand stops early at the unit with which the bytes begin
pub record HaltsAt {U S B : Type 0} (w : Word U S B) (bytes : List ℕ) (old : S) (why : Halt B) (text : List ℕ) : Type 0 where
  pub unit : U
  pub rest : List ℕ
  pub lawful : w.format.units.IsLawful unit
  pub prefix : bytes ≡ w.format.units.encode unit ++ rest
  pub halts : HaltsWith w old (Some unit) why text

-- the subcommand closed at the end of the input, or stopped early there
abbrev pub IsClosed : {U S B : Type 0} → Word U S B → S → Result (Unit {0}) (Halt B) → List ℕ → Type 0
IsClosed w old (Ok done) text = w.Closes old text
IsClosed w old (Err why) text = HaltsWith w old None why text

module _ {U S B : Type 0} (w : Word U S B) where
  -- the text of a unit was written
  pub record WritesStep (old : S) (unit : U) (new : S) (out : Change) : Type 0 where
    pub text : List ℕ
    pub step : w.Steps old unit new text
    pub written : Grows out.before out.after text
    pub quiet : out.faults_after ≡ out.faults

  -- why the subcommand stops early at a unit or at the end, and what was written there
  abbrev pub Faults : S → Option U → Fault B → Option (List ℕ) → Option (List ℕ) → Type 0
  Faults old at Write before after = (text : List ℕ) × IsWriting w old at text × GrowsByPrefix before after text
  Faults old at Memory before after = w.Allocates old at × (after ≡ before)
  Faults old at (Stopped why) before after = (text : List ℕ) × w.Stops old at why text × Grows before after text
  Faults old at Read before after = ⊥
  Faults old at NotFlow before after = ⊥
  Faults old at (Torn n) before after = ⊥
  Faults old at TooLong before after = ⊥

  -- the subcommand closed at the end of the input, or stopped early there, and its text was written
  abbrev pub Closed : S → Result (Unit {0}) (Fault B) → Option (List ℕ) → Option (List ℕ) → Type 0
  Closed old (Ok done) before after = (text : List ℕ) × w.Closes old text × Grows before after text
  Closed old (Err fault) before after = Faults old None fault before after

  -- the subcommand stopped early at this unit
  pub record BreaksStep (old : S) (unit : U) (fault : Fault B) (out : Change) : Type 0 where
    pub faults : Faults old (Some unit) fault out.before out.after
    pub cause : Blames (fault ≡ Write) out.faults out.faults_after

  -- some first bytes, or all, result in this text
  abbrev pub GetsTo : Type 0 → ℕ → List ℕ → S → List ℕ → Type 0
  GetsTo More place bytes start text =
      ((n : ℕ) × (ended : Ended B) × ComesOn w (Unit {0}) place (take n bytes) start ended text) ⊎ ((ended : Ended B) × ComesOn w More place bytes start ended text)

  -- the whole text of some units is in the output, and at most this many bytes were seen after these units
  pub record IsNearUnits (most : ℕ) (bytes : List ℕ) (start : S) (seen : List ℕ) (before after : Option (List ℕ)) : Type 0 where
    pub units : List U
    pub left : List ℕ
    pub state : S
    pub text : List ℕ
    pub more : List ℕ
    pub passes : Passes w bytes start units left state text
    pub written : Grows before after (text ++ more)
    pub near : length seen ≤ length (encode_all w.format.units units) + most

  -- how it ended from a place on and what it wrote, by the end, the bytes that were seen, and the bytes left in the source
  module _ (More : Type 0) (place : ℕ) (bytes : List ℕ) (start : S) (most : ℕ) (seen : List ℕ) (left : Option (List ℕ)) where
    abbrev pub Ends : Ended B → Option (List ℕ) → Option (List ℕ) → Type 0
    Ends (Ok done) before after = IfSome left (λ rest. rest ≡ []) × (text : List ℕ) × ComesOn w More place bytes start (Ok done) text × Grows before after text
    Ends (Err (Torn n)) before after = (text : List ℕ) × ComesOn w More place bytes start (Err (Torn n)) text × Grows before after text
    Ends (Err TooLong) before after = (text : List ℕ) × ComesOn w More place bytes start (Err TooLong) text × Grows before after text
    Ends (Err (Stopped why)) before after = (text : List ℕ) × ComesOn w More place bytes start (Err (Stopped why)) text × Grows before after text
    Ends (Err Write) before after = IsNearUnits most bytes start seen before after × (text : List ℕ) × GetsTo More place bytes start text × GrowsByPrefix before after text
    Ends (Err Memory) before after = IsNearUnits most bytes start seen before after × (text : List ℕ) × LacksOn w More place bytes start text × Grows before after text
    Ends (Err Read) before after = (text : List ℕ) × ComesOn w (Unit {0}) place (take (length seen) bytes) start (Err TooLong) text × Grows before after text
    Ends (Err NotFlow) before after = ⊥

-- It continued from what a window held: it took these bytes of the source, and came to an end.
pub record ContinuesFrom {U S B : Type 0} (w : Word U S B) (most : ℕ) (window : WindowState) (start : S) (result : Ended B) (source out : Change) : Type 0 where
  pub taken : List ℕ
  pub takes : Takes source.before source.after taken
  pub few : length window.held + length taken ≤ (window.limit - window.place) + 1
  pub ends : Ends w (window.limit - window.place < length (window.held ++ known taken source.after)) window.place (take (window.limit - window.place) (window.held ++ known taken source.after)) start most
      (window.held ++ taken) source.after result out.before out.after

-- what was written when a subcommand stopped early, by the reason
abbrev pub Halted : {B : Type 0} → Halt B → List ℕ → Fault B → Option (List ℕ) → Option (List ℕ) → Type 0
Halted halt.Memory text fault before after = (fault ≡ Memory) × (after ≡ before)
Halted (halt.Stopped why) text fault before after = ((fault ≡ Stopped why) × Grows before after text) ⊎ ((fault ≡ Write) × GrowsByPrefix before after text)

-- what the considered bytes result in and what was written, by the end, the bytes that were seen, and the bytes left in the source
module _ {U S B : Type 0} (w : Word U S B) (start : Version → S) (More : Type 0) (bytes : List ℕ) (most : ℕ) (seen : List ℕ) (left : Option (List ℕ)) where
  -- how far the source was read
  abbrev pub IsNearAll : Option (List ℕ) → Option (List ℕ) → Type 0
  IsNearAll before after =
      (n : ℕ) × (length seen ≤ n + most) × ((n ≡ 8) ⊎ ((text : List ℕ) × (more : List ℕ) × Passed w start bytes n text × Grows before after (text ++ more)))

  abbrev pub Finds : Ended B → Option (List ℕ) → Option (List ℕ) → Type 0
  Finds (Ok done) before after = IfSome left (λ rest. rest ≡ []) × (text : List ℕ) × Comes w start bytes More (Ok done) text × Grows before after text
  Finds (Err NotFlow) before after = (text : List ℕ) × Comes w start bytes More (Err NotFlow) text × Grows before after text
  Finds (Err (Torn n)) before after = (text : List ℕ) × Comes w start bytes More (Err (Torn n)) text × Grows before after text
  Finds (Err TooLong) before after = (text : List ℕ) × Comes w start bytes More (Err TooLong) text × Grows before after text
  Finds (Err (Stopped why)) before after = (text : List ℕ) × Comes w start bytes More (Err (Stopped why)) text × Grows before after text
  Finds (Err Write) before after =
      IsNearAll before after × (text : List ℕ)
      × (((n : ℕ) × (ended : Ended B) × Comes w start (take n bytes) (Unit {0}) ended text) ⊎ ((ended : Ended B) × Comes w start bytes More ended text)) × GrowsByPrefix before after text
  Finds (Err Memory) before after = IsNearAll before after × (text : List ℕ) × Lacks w start bytes More text × Grows before after text
  Finds (Err Read) before after = (ended : Ended B) × (text : List ℕ) × Comes w start (take (length seen) bytes) (Unit {0}) ended text × Grows before after text

-- It took these bytes of the source, and the considered bytes result in this end.
pub record GoesOver {U S B : Type 0} (w : Word U S B) (start : Version → S) (limit : ℕ) (held : List ℕ) (result : Ended B) (source out : Change) : Type 0 where
  pub taken : List ℕ
  pub takes : Takes source.before source.after taken
  pub few : length held + length taken ≤ limit + 1
  pub finds : Finds w start (limit < length (held ++ known taken source.after)) (take limit (held ++ known taken source.after)) (w.longest + 1) (held ++ taken) source.after result out.before out.after

-- ---- what was handed to the output, call by call

module _ {U S B O : Type 0} (w : Word U S B) (calls : O → Option (List (List ℕ))) (held : O → Option (List ℕ)) where
  -- the text of a unit was handed over, and written
  abbrev pub PutsStep : S → U → S → O → O → Type 0
  PutsStep old unit new before after = (text : List ℕ) × w.Steps old unit new text × HandsOver calls held before after ⊥ (piece text)

  -- at most one text was handed over, which is one that is written at a unit or at the end
  abbrev pub PutsLast : S → Option U → Type 0 → O → O → Type 0
  PutsLast old at Failed before after = (text : List ℕ) × ((text ≡ []) ⊎ IsWriting w old at text) × HandsOver calls held before after Failed (piece text)

  -- the texts of units and the last text were handed over
  abbrev pub PutsOn : S → Type 0 → O → O → Type 0
  PutsOn old Failed before after = (pieces : List (List ℕ)) × GoesOnBy w old pieces × HandsOver calls held before after Failed pieces

  -- nothing was handed over, or the opening, the texts of units and the last text
  abbrev pub PutsAll : (Version → S) → Type 0 → O → O → Type 0
  PutsAll start Failed before after = (pieces : List (List ℕ)) × IsByPieces w start pieces × HandsOver calls held before after Failed pieces

-- what is handed over of a text when a subcommand stops early: nothing if memory ran out
abbrev pub halted_text : {B : Type 0} → Halt B → List ℕ → List ℕ
halted_text halt.Memory text = []
halted_text (halt.Stopped why) text = text
