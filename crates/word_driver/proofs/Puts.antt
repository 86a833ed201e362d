-- What was handed to the output, call by call.
use Rattle.std.proofs.Common.{◌≡◌, ◌≢◌, ◌+◌, ◌≤◌, ℕ, List, [], ◌∷◌, ◌++◌, length, Option, Some, None, Result, Ok, Err, OnOk, IsErr, inl, inr, append-nil, refl, sym, ap, ◌∙◌, arith}
use Rattle.flow_io.specs.Streams.{Grows, HandsOver}
use Rattle.flow_io.proofs.Calls.{hands_nothing, hands_more, hands_alike}
use Rattle.wire_records.specs.Grammars.{encode_all}
use Rattle.wire_records.specs.Reading as reading
use Rattle.wire_records.specs.declared.version.Version.{Version}
use Rattle.file_units.specs.Units.{Leads, GoesToEnd, GoesToBreak}
use Rattle.word_driver.specs.declared.fault.Fault.{Fault}
use Rattle.word_driver.specs.declared.fault.Fault.TheVariants.{Write}
use Rattle.word_driver.specs.Ended.{Ended}
use Rattle.word_driver.specs.Word.{Word}
use Rattle.word_driver.specs.Pieces.{piece, HasPieces}
use Rattle.word_driver.specs.Private.{OpensAt, PutsLast, PutsOn, PutsAll}
use Rattle.word_driver.proofs.Pieces.{Writes, Breaks, Puts, BreaksPut}

-- a text that isn't empty is one piece
piece_some : (text : List ℕ) → text ≢ [] → piece text ≡ text ∷ []
piece_some [] some = absurd (some refl)
piece_some (x ∷ xs) some = refl

module _ {O : Type 0} (calls : O → Option (List (List ℕ))) (held : O → Option (List ℕ)) where
  -- bytes were written by one call
  pub puts_some : {E : Type 0} (result : Result (Unit {0}) E) (before after : O) (bytes : List ℕ) → bytes ≢ [] → Grows (calls before) (calls after) (bytes ∷ []) → OnOk result (Grows (held before) (held after) bytes) → HandsOver calls held before after (IsErr result) (piece bytes)
  puts_some (Ok done) before after bytes some called written = rw (piece_some bytes some) (record { called = called; written = λ not. rw (append-nil bytes) written })
  puts_some (Err why) before after bytes some called written = rw (piece_some bytes some) (record { called = called; written = λ not. absurd (not refl) })

  -- no call was made for an empty text
  pub puts_none : {Failed : Type 0} (out : O) (bytes : List ℕ) → bytes ≡ [] → HandsOver calls held out out Failed (piece bytes)
  puts_none out bytes none = rw none (hands_nothing calls held out)

module _ {U S B O : Type 0} (w : Word U S B) (calls : O → Option (List (List ℕ))) (held : O → Option (List ℕ)) (faults : O → ℕ) where
  -- ---- what was written, without what was handed over

  leads_writes : (start new : S) (before after : O) (units : List U) → Leads w.format (Puts w calls held faults) start before units new after → Leads w.format (Writes w held faults) start before units new after
  leads_writes start new before after [] leads = leads
  leads_writes start new before after (unit ∷ units) leads = (leads.0, leads.1, leads.2.0, leads_writes leads.0 new leads.1 after units leads.3)

  pub end_writes : (place : ℕ) (More : Type 0) (bytes : List ℕ) (ending : reading.Ending) (start new : S) (before after : O) → GoesToEnd w.format (Puts w calls held faults) place More bytes ending start new before after
      → GoesToEnd w.format (Writes w held faults) place More bytes ending start new before after
  end_writes place More bytes ending start new before after goes = record { units = goes.units; reads = goes.reads; leads = leads_writes start new before after goes.units goes.leads }

  pub break_writes : (bytes : List ℕ) (fault : Fault B) (start : S) (before after : O) → GoesToBreak w.format (Puts w calls held faults) (BreaksPut w calls held faults) bytes fault start before after
      → GoesToBreak w.format (Writes w held faults) (Breaks w held faults) bytes fault start before after
  break_writes bytes fault start before after goes = record {
    units = goes.units;
    left = goes.left;
    middle = goes.middle;
    between = goes.between;
    begins = goes.begins;
    each = goes.each;
    leads = leads_writes start goes.middle before goes.between goes.units goes.leads;
    breaks = record {
      unit = goes.breaks.unit;
      rest = goes.breaks.rest;
      lawful = goes.breaks.lawful;
      prefix = goes.breaks.prefix;
      broken = goes.breaks.broken.0;
    };
  }

  -- with or without what was handed over, it breaks off after the same units
  pub break_few : (bytes : List ℕ) (fault : Fault B) (start : S) (before after : O) (goes : GoesToBreak w.format (Puts w calls held faults) (BreaksPut w calls held faults) bytes fault start before after) (seen : List ℕ) (room most : ℕ) → room ≡ most
      → length seen ≤ length (encode_all w.format.units goes.units) + (room + 1) → length seen ≤ length (encode_all w.format.units (break_writes bytes fault start before after goes).units) + (most + 1)
  unfolding break_writes
  break_few bytes fault start before after goes seen room most same few = omega (arith, same, few)

  -- ---- what was handed over

  has_pieces : (start new : S) (before after : O) (units : List U) → Leads w.format (Puts w calls held faults) start before units new after → (pieces : List (List ℕ)) × HasPieces w start units new pieces × HandsOver calls held before after ⊥ pieces
  has_pieces start new before after [] leads = ([], (leads.0, refl), rw leads.1 (hands_nothing calls held before))
  has_pieces start new before after (unit ∷ units) leads =
      let one = leads.2.1 in
      let rest = has_pieces leads.0 new leads.1 after units leads.3 in
      (piece one.0 ++ rest.0, (leads.0, one.0, rest.0, one.1, rest.1, refl), hands_more calls held before leads.1 after (piece one.0) rest.0 (λ e. e) one.2 rest.2)

  -- all units were taken, and then no more was handed over
  pub on_ended : {Failed : Type 0} (place : ℕ) (More : Type 0) (bytes : List ℕ) (ending : reading.Ending) (start new : S) (before after : O) → GoesToEnd w.format (Puts w calls held faults) place More bytes ending start new before after → PutsOn w calls held start Failed before after
  on_ended place More bytes ending start new before after goes =
      let so = has_pieces start new before after goes.units goes.leads in (
        so.0,
        record { units = goes.units; state = new; taken = so.0; at = None; last = []; goes = so.1; ends = inl refl; all = sym (append-nil so.0) },
        hands_alike calls held before after so.0 (λ not e. e) so.2,
      )

  -- all units were taken, and the subcommand closed
  pub on_closed : {Failed : Type 0} (place : ℕ) (More : Type 0) (bytes : List ℕ) (ending : reading.Ending) (start new : S) (before middle after : O) → GoesToEnd w.format (Puts w calls held faults) place More bytes ending start new before middle → PutsLast w calls held new None Failed middle after
      → PutsOn w calls held start Failed before after
  on_closed place More bytes ending start new before middle after goes last =
      let so = has_pieces start new before middle goes.units goes.leads in (
        so.0 ++ piece last.0,
        record { units = goes.units; state = new; taken = so.0; at = None; last = last.0; goes = so.1; ends = last.1; all = refl },
        hands_more calls held before middle after so.0 (piece last.0) (λ e. e) so.2 last.2,
      )

  -- going broke off at a unit
  pub on_broken : (bytes : List ℕ) (fault : Fault B) (start : S) (before after : O) → GoesToBreak w.format (Puts w calls held faults) (BreaksPut w calls held faults) bytes fault start before after → PutsOn w calls held start (◌≡◌ {A = Ended B} (Err fault) (Err Write)) before after
  on_broken bytes fault start before after goes =
      let so = has_pieces start goes.middle before goes.between goes.units goes.leads in
      let last = goes.breaks.broken.1 in (
        so.0 ++ piece last.0,
        record { units = goes.units; state = goes.middle; taken = so.0; at = Some goes.breaks.unit; last = last.0; goes = so.1; ends = last.1; all = refl },
        hands_alike calls held before after (so.0 ++ piece last.0) (λ not e. not (ap (λ (f : Fault B). Err f) e)) (hands_more calls held before goes.between after so.0 (piece last.0) (λ e. e) so.2 last.2),
      )

module _ {U S B O : Type 0} (w : Word U S B) (start : Version → S) (calls : O → Option (List (List ℕ))) (held : O → Option (List ℕ)) where
  -- nothing was handed over
  pub puts_nothing : {Failed : Type 0} (out : O) → PutsAll w calls held start Failed out out
  puts_nothing out = ([], inl refl, hands_nothing calls held out)

  -- the opening was handed over, and what follows it
  pub puts_all : {One Failed : Type 0} (bytes : List ℕ) (state : S) (IsReady : ℕ → Type 0) (text : List ℕ) (before middle after : O) → OpensAt w start bytes state IsReady text → ¬ One → HandsOver calls held before middle One (piece text) → PutsOn w calls held state Failed middle after
      → PutsAll w calls held start Failed before after
  puts_all bytes state IsReady text before middle after opens none put on = (
    piece text ++ on.0,
    inr (opens.version, on.0, rw opens.starts at on.1, ap (λ xs. piece xs ++ on.0) opens.opening),
    hands_more calls held before middle after (piece text) on.0 none put on.2,
  )

  -- the opening was handed over, and its write failed
  pub puts_opening : {Failed : Type 0} (bytes : List ℕ) (state : S) (IsReady : ℕ → Type 0) (text : List ℕ) (before after : O) → OpensAt w start bytes state IsReady text → HandsOver calls held before after Failed (piece text) → PutsAll w calls held start Failed before after
  puts_opening bytes state IsReady text before after opens put = (
    piece text,
    inr (
      opens.version,
      [],
      record { units = []; state = start opens.version; taken = []; at = None; last = []; goes = (refl, refl); ends = inl refl; all = refl },
      ap piece opens.opening ∙ sym (append-nil (piece (w.opens opens.version))),
    ),
    put,
  )
