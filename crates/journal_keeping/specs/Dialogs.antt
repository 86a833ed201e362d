-- What a call makes of its input that keeps a journal: one protocol of serving, whatever the input is.
use Rattle.std.specs.Prelude.{◌≡◌, ◌⊎◌, ℕ, List, [], ◌++◌, Option, IfSome, length, map, take}
use Rattle.wire_records.specs.Records.{Record}
use Rattle.wire_records.specs.Commands.{Pair}
use Rattle.wire_records.specs.Reading.{StartsWith}
use Rattle.flow_orders.specs.Outcomes.{Outcome}
use Rattle.journal_records.specs.Pairs.{pair_encoding}
use Rattle.journal_records.specs.Formats.{records_of}
use Rattle.market_rules.specs.Market.{Market}
use Rattle.market_history.specs.Histories.{Start}
use Rattle.disk_edge.specs.Disks.{DiskState}
use Rattle.journal_disk.specs.Entries.{Keeps}
use Rattle.journal_keeping.specs.Inputs.{InputStarts}
use Rattle.journal_keeping.specs.Starts.{head_of, sources, source_starts}
use Rattle.journal_keeping.specs.Keeping.{GoesOnIn, GoesOn, Runs}
use Rattle.journal_keeping.specs.Openings.{OpensAs}
use Rattle.journal_keeping.specs.Outputs.{Output, Gains}

-- A kind of input whose commands are served, kept and answered: how it begins, and which entries and texts its first units add.
pub record Dialog : Type 1 where
  pub starts : InputStarts
  -- So many entries at most are kept before they are acknowledged together. Of those that aren't yet, a crash after the call leaves all or none.
  pub together : ℕ
  -- The first units of an input that begins so, within the limit, add these entries and are answered with these texts, if its content is known: in a
  -- journal that is at this market, and has `count` entries before.
  pub Adds : (limit : ℕ) → Option (List ℕ) → Start → Market → (count : ℕ) → List (Pair Record Outcome) → List (List ℕ) → Type 0

-- What a call does to the disk and to the output, from the beginning with which it continues. The new entries are those that the first units of its
-- input add, and a crash leaves the old ones and the first of the new ones. The output gained the texts up to the last entry that is acknowledged:
-- all that were added, or all but those that are kept together last.
pub record ServesIn (dialog : Dialog) (limit : ℕ) (content : Option (List ℕ)) (Cut : Type 0) (begin : Start) (start end : DiskState) (old : List (Pair Record Outcome)) (market : Market) (out later : Output) : Type 0 where
  pub of : Start
  pub from : Market
  pub input : Start
  pub continues : GoesOnIn dialog.starts limit content start begin market of from input
  pub new : List (Pair Record Outcome)
  pub acknowledged : ℕ
  pub runs : Runs dialog.together of start end old from new acknowledged
  pub texts : List (List ℕ)
  pub added : dialog.Adds limit content input from (length old) new texts
  pub told : List (List ℕ)
  pub answered : dialog.Adds limit content input from (length old) (take acknowledged new) told
  pub gained : Gains Cut out later told

-- What a call did whose disk held these bytes: how it was opened, which entries were added to its journal, and with which texts they were answered.
-- `Are` says which units of the input they are of, and `At` what the disk has then.
pub record HasServed (starts : InputStarts) (held : List ℕ) (Cut : Type 0) (out later : Output) (Are : Start → Market → (count : ℕ) → List (Pair Record Outcome) → List (List ℕ) → Market → Type 0) (At : Start → List (Pair Record Outcome) → Type 0) : Type 0 where
  pub begin : Start
  pub old : List (Pair Record Outcome)
  pub market : Market
  pub input : Start
  pub opens : OpensAs starts held begin old market input
  pub new : List (Pair Record Outcome)
  pub texts : List (List ℕ)
  pub now : Market
  pub goes_on : GoesOn begin old market new now
  pub are : Are input market (length old) new texts now
  pub gained : Gains Cut out later texts
  pub at : At begin (old ++ new)

-- the disk keeps these entries of a journal that begins so, and a crash leaves just that
abbrev pub KeepsJust : DiskState → Start → List (Pair Record Outcome) → Type 0
KeepsJust end begin pairs = (place : ℕ) × Keeps (head_of begin) (map records_of pairs) place end

-- the commands' records of entries
abbrev pub asked_of : List (Pair Record Outcome) → List Record
asked_of pairs = map (λ (pair : Pair Record Outcome). pair.asked) pairs

-- the records of a source, each of which is answered with the bytes of its entry
abbrev pub record_dialog : Dialog
record_dialog = record {
  starts = source_starts;
  together = 1;
  Adds = λ limit content input market count new texts.
      ((new ≡ []) ⊎ IfSome content (λ bytes. StartsWith sources limit bytes input (asked_of new))) × (texts ≡ map pair_encoding new);
}
