-- What a call does, whatever its input is, from what its parts did: nothing, or entries that were added until it stopped.
use Rattle.std.proofs.Common.{◌≡◌, ℕ, List, [], ◌++◌, Option, length, map, take, sym, subst}
use Rattle.std.proofs.Math.Seq.{take-append_seam}
use Rattle.journal_records.specs.Formats.{records_of}
use Rattle.market_rules.specs.Market.{Market}
use Rattle.market_history.specs.Histories.{Start, CanStart}
use Rattle.disk_edge.specs.Disks.{DiskState, IsDisk}
use Rattle.journal_disk.specs.Entries.{Keeps}
use Rattle.journal_keeping.specs.Inputs.{InputStarts}
use Rattle.journal_keeping.specs.Starts.{head_of}
use Rattle.journal_keeping.specs.Keeping.{IsKeptJournal, HoldsLegal, GoesOnIn}
use Rattle.journal_keeping.specs.Outputs.{Output}
use Rattle.journal_keeping.specs.Dialogs.{Dialog, ServesIn, HasServed, KeepsJust}
use Rattle.journal_keeping.specs.Ended.{MayBeginAgain}
use Rattle.journal_keeping.specs.Beginning.{IsBegun, OpensSafely}
use Rattle.journal_keeping.specs.Private.{HasStopped}
use Rattle.journal_keeping.proofs.Serving.{unbegun, opened_first}
use Rattle.journal_keeping.proofs.Gaining.{gains_none, gains_wider}
use Rattle.journal_keeping.proofs.Turns.{Pairs}
use Rattle.journal_keeping.proofs.Begun.{Opens}
use Rattle.journal_keeping.proofs.Starting.{opens_journal}
use Rattle.journal_keeping.proofs.Again.{after_run}

module _ (dialog : Dialog) (limit : ℕ) (content : Option (List ℕ)) where
  -- before the first unit
  pub serves_none : ((input : Start) (from : Market) (count : ℕ) → dialog.Adds limit content input from count [] []) → (Cut : Type 0) (begin : Start) (start next : DiskState) (old : Pairs) (market : Market) (out : Output)
      → IsDisk next → OpensSafely dialog.starts limit content start next begin old market → ServesIn dialog limit content Cut begin start next old market out out
  serves_none none Cut begin start next old market out is_disk safe = record {
    of = safe.of;
    from = safe.from;
    input = safe.input;
    continues = safe.goes;
    new = [];
    acknowledged = 0;
    runs = unbegun safe.of dialog.together start next old safe.from safe.journal is_disk safe.moments;
    texts = [];
    added = none safe.input safe.from (length old);
    told = [];
    answered = none safe.input safe.from (length old);
    gained = gains_none Cut out;
  }

  -- entries of the first units were added
  pub serves_added : (Failed Cut : Type 0) (of input : Start) (begin : Start) (start begun end : DiskState) (old : Pairs) (market session now : Market) (count place : ℕ) (out later : Output) (new more : Pairs) (words texts : List (List ℕ))
      → GoesOnIn dialog.starts limit content start begin market of session input × IsKeptJournal of old session × (count ≡ length old) × Keeps (head_of of) (map records_of old) place begun → Opens of start begun old
      → HasStopped dialog.together Failed Cut session now place begun end out later new more texts
      → dialog.Adds limit content input session count (new ++ more) words → dialog.Adds limit content input session count new texts
      → ServesIn dialog limit content Cut begin start end old market out later
  serves_added Failed Cut of input begin start begun end old market session now count place out later new more words texts is opens stops added answered = record {
    of = of;
    from = session;
    input = input;
    continues = is.0;
    new = new ++ more;
    acknowledged = length new;
    runs = opened_first of dialog.together start begun end old session place (new ++ more) (length new) opens is.3 (stops.runs of old is.1 is.3);
    texts = words;
    added = subst (λ (n : ℕ). dialog.Adds limit content input session n (new ++ more) words) is.2 added;
    told = texts;
    answered = subst (λ (n : ℕ). dialog.Adds limit content input session n (take (length new) (new ++ more)) texts) is.2
        (subst (λ (l : Pairs). dialog.Adds limit content input session count l texts) (sym (take-append_seam new more)) answered);
    gained = stops.gained;
  }

  -- a write may be cut short in more cases
  pub serves_wider : (Cut Wider : Type 0) (begin : Start) (start end : DiskState) (old : Pairs) (market : Market) (out later : Output) → (Cut → Wider)
      → ServesIn dialog limit content Cut begin start end old market out later → ServesIn dialog limit content Wider begin start end old market out later
  serves_wider Cut Wider begin start end old market out later wider serves = record {
    of = serves.of;
    from = serves.from;
    input = serves.input;
    continues = serves.continues;
    new = serves.new;
    acknowledged = serves.acknowledged;
    runs = serves.runs;
    texts = serves.texts;
    added = serves.added;
    told = serves.told;
    answered = serves.answered;
    gained = gains_wider Cut Wider out later serves.told wider serves.gained;
  }

  -- a later call may begin on what is left
  pub may_begin_again : (Cut : Type 0) (begin : Start) (start end : DiskState) (old : Pairs) (market : Market) (out later : Output) → HoldsLegal start begin old market → IsDisk end
      → ServesIn dialog limit content Cut begin start end old market out later → MayBeginAgain start end
  may_begin_again Cut begin start end old market out later legal is_disk serves =
      after_run dialog.together begin serves.of start end old serves.new market serves.from serves.acknowledged legal is_disk serves.runs

-- what was served, if the disk is known to have held these bytes
module _ {together : ℕ} (starts : InputStarts) (held : List ℕ) (begin input : Start) (market : Market) (count place : ℕ) (begun : DiskState) (is : IsBegun starts held begin input market count place begun) (can : CanStart input)
    (Failed Cut : Type 0) (now : Market) (end : DiskState) (out later : Output) (new more : Pairs) (texts : List (List ℕ)) (stops : HasStopped together Failed Cut market now place begun end out later new more texts) where
  journal : IsKeptJournal begin is.0 market
  journal = opens_journal starts held begin input is.0 market can is.1

  pub keeps_just : ¬ Failed → KeepsJust end begin (is.0 ++ new)
  keeps_just not = (stops.whole not).1 begin is.0 journal is.3

  pub has_served : (Wider : Type 0) → (Cut → Wider) → (Are : Start → Market → (n : ℕ) → Pairs → List (List ℕ) → Market → Type 0) (At : Start → Pairs → Type 0)
      → Are input market count new texts now → At begin (is.0 ++ new) → HasServed starts held Wider out later Are At
  has_served Wider wider Are At are at = record {
    begin = begin;
    old = is.0;
    market = market;
    input = input;
    opens = is.1;
    new = new;
    texts = texts;
    now = now;
    goes_on = stops.goes_on begin is.0 journal is.3;
    are = subst (λ (n : ℕ). Are input market n new texts now) is.2 are;
    gained = gains_wider Cut Wider out later texts wider stops.gained;
    at = at;
  }
