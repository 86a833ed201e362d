-- What going through the units of a file writes, until it ends or breaks off.
use Rattle.std.proofs.Common.{◌≡◌, ◌≢◌, ◌+◌, ◌<◌, ◌≤◌, ℕ, List, [], ◌∷◌, ◌++◌, Option, Some, None, IfSome, Result, Ok, Err, length, take, inl, inr, append-nil, append_assoc, length-append, refl, sym, ap, ◌∙◌, arith}
use Rattle.std.proofs.lemmas.List.{flat_map_more, take_at, length-take}
use Rattle.std.proofs.lemmas.List.Elements.{All-push}
use Rattle.flow_io.specs.Faults.{Blames}
use Rattle.flow_io.specs.Streams.{Grows}
use Rattle.flow_io.proofs.Growth.{Grows-nothing, Grows-more, GrowsByPrefix-more}
use Rattle.wire_records.specs.Grammars.{encode_all}
use Rattle.wire_records.specs.Reading as reading
use Rattle.wire_records.proofs.ReadingLaws.{none_in_none}
use Rattle.file_units.specs.Units.{Leads, GoesToEnd, GoesToBreak}
use Rattle.file_units.specs.Inputs.{known}
use Rattle.file_units.specs.declared.input.TakeFault.{TakeFault}
use Rattle.file_units.specs.declared.input.TakeFault.TheVariants.{Broken}
use Rattle.file_units.specs.declared.input.TakeFault.TheVariants as taking
use Rattle.word_driver.specs.declared.fault.Fault.{Fault}
use Rattle.word_driver.specs.declared.fault.Fault.TheVariants.{Read, Write, Memory, NotFlow, Torn, TooLong, Stopped}
use Rattle.word_driver.specs.Ended.{Ended}
use Rattle.word_driver.specs.Word.{Word, Goes, ComesOn}
use Rattle.word_driver.specs.Laws.{IsExact}
use Rattle.word_driver.specs.Private.{Closed, IsNearUnits, Ends}
use Rattle.word_driver.proofs.Pieces.{Writes, Breaks}

-- no fault is blamed if the count is unchanged and nothing failed
pub blames_nobody : {P : Type 0} (before now : ℕ) → ¬ P → now ≡ before → Blames P before now
blames_nobody before now not same = record { later = omega (arith, same); rose = λ p. absurd (not p); quiet = λ _. same }

-- the count was unchanged until the middle
pub blames_later : {P Q : Type 0} (before middle now : ℕ) → middle ≡ before → (P → Q) → (Q → P) → Blames Q middle now → Blames P before now
blames_later before middle now same to back cause = record {
  later = omega (arith, same, cause.later);
  rose = λ p. rw same at (cause.rose (to p));
  quiet = λ not. cause.quiet (λ q. not (back q)) ∙ same;
}

-- equal errors have equal reasons
pub same_fault : (T F : Type 0) (a b : F) → ◌≡◌ {A = Result T F} (Err a) (Err b) → a ≡ b
same_fault T F a b e = cc

-- a fault is blamed if the answer that carries it is
pub err_alike : {T F : Type 0} (a why : F) (before now : ℕ) → Blames (a ≡ why) before now → Blames (◌≡◌ {A = Result T F} (Err a) (Err why)) before now
err_alike {T} {F} a why before now cause = record {
  later = cause.later;
  rose = λ e. cause.rose (same_fault T F a why e);
  quiet = λ not. cause.quiet (λ e. not (ap (λ (f : F). Err f) e));
}

-- breaking off is no failed read
pub broken_is_no_read : {T F : Type 0} (fault : F) → ◌≡◌ {A = Result T (TakeFault F)} (Err (Broken fault)) (Err taking.Read) → ⊥
broken_is_no_read {T} {F} fault e = absurd (let same = same_fault T (TakeFault F) (Broken fault) taking.Read e in cc)

module _ {U S B : Type 0} (w : Word U S B) where
  -- one more unit leads on
  pub goes_more : (old middle new : S) (units : List U) (unit : U) (text last : List ℕ) → Goes w old units middle text → w.Steps middle unit new last → Goes w old (units ++ unit ∷ []) new (text ++ last)
  goes_more old middle new [] unit text last goes step =
      rw (← goes.0, goes.1) (new, last, [], step, (refl, refl), sym (append-nil last))
  goes_more old middle new (u ∷ units) unit text last goes step = (
    goes.0,
    goes.1,
    goes.2 ++ last,
    goes.3,
    goes_more goes.0 middle new units unit goes.2 last goes.4 step,
    ap (λ xs. xs ++ last) goes.5 ∙ append_assoc goes.1 goes.2 last,
  )

-- at least as many bytes are known as were taken
no_fewer : (taken : List ℕ) (after : Option (List ℕ)) → length taken ≤ length (known taken after)
no_fewer taken None = omega arith
no_fewer taken (Some left) = omega (arith, length-append taken left)

module _ {U S B O : Type 0} (w : Word U S B) (held : O → Option (List ℕ)) (faults : O → ℕ) where
  -- What units have written, without a fault.
  pub record HasWritten (start : S) (units : List U) (new : S) (before after : O) : Type 0 where
    pub text : List ℕ
    pub goes : Goes w start units new text
    pub written : Grows (held before) (held after) text
    pub quiet : faults after ≡ faults before

  pub has_written : (start new : S) (before after : O) (units : List U) → Leads w.format (Writes w held faults) start before units new after → HasWritten start units new before after
  has_written start new before after [] leads = record {
    text = [];
    goes = (leads.0, refl);
    written = rw leads.1 (Grows-nothing (held before));
    quiet = ap faults leads.1;
  }
  has_written start new before after (unit ∷ units) leads =
      let one = leads.2 in
      let rest = has_written leads.0 new leads.1 after units leads.3 in
      record {
        text = one.text ++ rest.text;
        goes = (leads.0, one.text, rest.text, one.step, rest.goes, refl);
        written = Grows-more (held before) (held leads.1) (held after) one.text rest.text one.written rest.written;
        quiet = rest.quiet ∙ one.quiet;
      }

  -- at the end of the input, no more was seen than the units
  pub near_where_ended : (limit place : ℕ) (prefix taken : List ℕ) (after : Option (List ℕ)) (start new : S) (before middle : O)
      (goes : GoesToEnd w.format (Writes w held faults) place (limit < length (prefix ++ known taken after)) (take limit (prefix ++ known taken after)) reading.End start new before middle) (most : ℕ)
      → length (prefix ++ taken) ≤ length (encode_all w.format.units goes.units) + most
  near_where_ended limit place prefix taken after start new before middle goes most =
      let reads = goes.reads in
      omega (
        arith,
        reads.ends.1,
        ap length reads.whole,
        ap length reads.ends.2,
        length-append (encode_all w.format.units goes.units) reads.rest,
        length-take limit (prefix ++ known taken after),
        length-append prefix (known taken after),
        length-append prefix taken,
        no_fewer taken after,
      )

  module _ (More : Type 0) (place : ℕ) (bytes : List ℕ) (start new : S) (before middle after : O) (most : ℕ) (seen : List ℕ) (left : Option (List ℕ)) where
    -- all units were taken, and no complete one is left
    abbrev pub ToEnd : reading.Ending → Type 0
    ToEnd ending = GoesToEnd w.format (Writes w held faults) place More bytes ending start new before middle

    pub to_torn : (n : ℕ) → ToEnd (reading.Torn n) → Ends w More place bytes start most seen left (Err (Torn n)) (held before) (held middle)
    to_torn n goes =
        let so = has_written start new before middle goes.units goes.leads in
        let reads = goes.reads in (
          so.text,
          record {
            units = goes.units;
            rest = reads.rest;
            state = new;
            so_far = so.text;
            last = [];
            passes = record { whole = reads.whole; each = reads.each; goes = so.goes };
            halts = ((reads.none, reads.ends), refl);
            writes = sym (append-nil so.text);
          },
          so.written,
        )

    pub to_limit : ToEnd reading.TooLong → Ends w More place bytes start most seen left (Err TooLong) (held before) (held middle)
    to_limit goes =
        let so = has_written start new before middle goes.units goes.leads in
        let reads = goes.reads in (
          so.text,
          record {
            units = goes.units;
            rest = reads.rest;
            state = new;
            so_far = so.text;
            last = [];
            passes = record { whole = reads.whole; each = reads.each; goes = so.goes };
            halts = ((reads.none, reads.ends), refl);
            writes = sym (append-nil so.text);
          },
          so.written,
        )

    -- the whole text of all units is in the output
    near_end : (goes : ToEnd reading.End) (so : HasWritten start goes.units new before middle) (more : List ℕ) → Grows (held middle) (held after) more → length seen ≤ length (encode_all w.format.units goes.units) + most → IsNearUnits w most bytes start seen (held before) (held after)
    near_end goes so more written few =
        let reads = goes.reads in
        record {
          units = goes.units;
          left = reads.rest;
          state = new;
          text = so.text;
          more = more;
          passes = record { whole = reads.whole; each = reads.each; goes = so.goes };
          written = Grows-more (held before) (held middle) (held after) so.text more so.written written;
          near = few;
        }

    -- the subcommand closed, and wrote this
    closed : (goes : ToEnd reading.End) (so : HasWritten start goes.units new before middle) (last : List ℕ) → w.Closes new last → ComesOn w More place bytes start (Ok tt) (so.text ++ last)
    closed goes so last closes =
        let reads = goes.reads in
        record {
          units = goes.units;
          rest = reads.rest;
          state = new;
          so_far = so.text;
          last = last;
          passes = record { whole = reads.whole; each = reads.each; goes = so.goes };
          halts = ((reads.none, reads.ends), closes);
          writes = refl;
        }

    -- the subcommand stopped at the end
    stopped : (goes : ToEnd reading.End) (so : HasWritten start goes.units new before middle) (why : B) (last : List ℕ) → w.Stops new None why last → ComesOn w More place bytes start (Err (Stopped why)) (so.text ++ last)
    stopped goes so why last stops =
        let reads = goes.reads in
        record {
          units = goes.units;
          rest = reads.rest;
          state = new;
          so_far = so.text;
          last = last;
          passes = record { whole = reads.whole; each = reads.each; goes = so.goes };
          halts = inr ((reads.none, reads.ends), stops);
          writes = refl;
        }

    pub to_end : (result : Ended B) (goes : ToEnd reading.End) → IfSome left (λ rest. rest ≡ []) → length seen ≤ length (encode_all w.format.units goes.units) + most → Closed w new result (held middle) (held after) → Ends w More place bytes start most seen left result (held before) (held after)
    to_end (Ok done) goes none few closes =
        let so = has_written start new before middle goes.units goes.leads in
        (none, so.text ++ closes.0, closed goes so closes.0 closes.1, Grows-more (held before) (held middle) (held after) so.text closes.0 so.written closes.2)
    to_end (Err Write) goes none few closes =
        let so = has_written start new before middle goes.units goes.leads in (
          near_end goes so (take closes.2.0 closes.0) closes.2.2 few,
          so.text ++ closes.0,
          elim closes.1 [
            | inl last ↦ inr (Ok tt, closed goes so closes.0 last)
            | inr stops ↦ inr (Err (Stopped stops.0), stopped goes so stops.0 closes.0 stops.1)
          ],
          GrowsByPrefix-more (held before) (held middle) (held after) so.text closes.0 so.written closes.2,
        )
    to_end (Err Memory) goes none few closes =
        let so = has_written start new before middle goes.units goes.leads in
        let reads = goes.reads in (
          near_end goes so [] (rw closes.1 (Grows-nothing (held middle))) few,
          so.text,
          record {
            units = goes.units;
            rest = reads.rest;
            state = new;
            passes = record { whole = reads.whole; each = reads.each; goes = so.goes };
            allocates = inr ((reads.none, reads.ends), closes.0);
          },
          rw closes.1 so.written,
        )
    to_end (Err (Stopped why)) goes none few closes =
        let so = has_written start new before middle goes.units goes.leads in
        (so.text ++ closes.0, stopped goes so why closes.0 closes.1, Grows-more (held before) (held middle) (held after) so.text closes.0 so.written closes.2)
    to_end (Err Read) goes none few closes = absurd closes
    to_end (Err NotFlow) goes none few closes = absurd closes
    to_end (Err (Torn n)) goes none few closes = absurd closes
    to_end (Err TooLong) goes none few closes = absurd closes

  -- a read failed after all units that were seen
  pub to_unread : (More : Type 0) (place : ℕ) (bytes seen : List ℕ) (start new : S) (before after : O) (most : ℕ) (left : Option (List ℕ)) → GoesToEnd w.format (Writes w held faults) place (Unit {0}) (take (length seen) bytes) reading.TooLong start new before after
      → Ends w More place bytes start most seen left (Err Read) (held before) (held after)
  to_unread More place bytes seen start new before after most left goes = to_limit (Unit {0}) place (take (length seen) bytes) start new before after after most seen left goes

  module _ (exact : IsExact w) (More : Type 0) (place : ℕ) (bytes : List ℕ) (start : S) (before after : O) (most : ℕ) (seen : List ℕ) (left : Option (List ℕ)) where
    -- going through the units broke off with a fault
    abbrev pub ToBreak : Fault B → Type 0
    ToBreak fault = GoesToBreak w.format (Writes w held faults) (Breaks w held faults) bytes fault start before after

    -- the text of one more unit is what some first bytes result in
    one_more : {fault : Fault B} (goes : ToBreak fault) (so : HasWritten start goes.units goes.middle before goes.between) (new : S) (text : List ℕ) → w.Steps goes.middle goes.breaks.unit new text
        → (n : ℕ) × (ended : Ended B) × ComesOn w (Unit {0}) place (take n bytes) start ended (so.text ++ text)
    one_more goes so new text step =
        let off = goes.breaks in
        let units = goes.units ++ off.unit ∷ [] in
        let whole : bytes ≡ encode_all w.format.units units ++ off.rest =
        goes.begins ∙ ap (λ xs. encode_all w.format.units goes.units ++ xs) off.prefix ∙ sym (append_assoc (encode_all w.format.units goes.units) (w.format.units.encode off.unit) off.rest)
        ∙ ap (λ xs. xs ++ off.rest) (flat_map_more w.format.units.encode [] goes.units off.unit)
        in (
          length (encode_all w.format.units units),
          Err TooLong,
          record {
            units = units;
            rest = [];
            state = new;
            so_far = so.text ++ text;
            last = [];
            passes = record {
              whole = ap (take (length (encode_all w.format.units units))) whole ∙ take_at (encode_all w.format.units units) off.rest (length (encode_all w.format.units units)) refl
                  ∙ sym (append-nil (encode_all w.format.units units));
              each = All-push w.format.units.IsLawful goes.units off.unit goes.each off.lawful;
              goes = goes_more w start goes.middle new goes.units off.unit so.text text so.goes step;
            };
            halts = ((none_in_none w.format.units exact.readable.units, (exact.short, tt)), refl);
            writes = sym (append-nil (so.text ++ text));
          },
        )

    -- the subcommand stopped at the next unit
    stopped_at : {fault : Fault B} (goes : ToBreak fault) (so : HasWritten start goes.units goes.middle before goes.between) (why : B) (last : List ℕ) → w.Stops goes.middle (Some goes.breaks.unit) why last
        → ComesOn w More place bytes start (Err (Stopped why)) (so.text ++ last)
    stopped_at goes so why last stops =
        let off = goes.breaks in
        record {
          units = goes.units;
          rest = goes.left;
          state = goes.middle;
          so_far = so.text;
          last = last;
          passes = record { whole = goes.begins; each = goes.each; goes = so.goes };
          halts = inl (off.unit, off.rest, (off.lawful, off.prefix), stops);
          writes = refl;
        }

    -- the whole text of the units before is in the output
    near_break : {fault : Fault B} (goes : ToBreak fault) (so : HasWritten start goes.units goes.middle before goes.between) (more : List ℕ) → Grows (held goes.between) (held after) more → length seen ≤ length (encode_all w.format.units goes.units) + most
        → IsNearUnits w most bytes start seen (held before) (held after)
    near_break goes so more written few = record {
      units = goes.units;
      left = goes.left;
      state = goes.middle;
      text = so.text;
      more = more;
      passes = record { whole = goes.begins; each = goes.each; goes = so.goes };
      written = Grows-more (held before) (held goes.between) (held after) so.text more so.written written;
      near = few;
    }

    pub to_break : (fault : Fault B) (goes : ToBreak fault) → length seen ≤ length (encode_all w.format.units goes.units) + most → Ends w More place bytes start most seen left (Err fault) (held before) (held after)
    to_break Write goes few =
        let so = has_written start goes.middle before goes.between goes.units goes.leads in
        let broke = goes.breaks.broken.faults in (
          near_break goes so (take broke.2.0 broke.0) broke.2.2 few,
          so.text ++ broke.0,
          elim broke.1 [
            | inl step ↦ inl (one_more goes so step.0 broke.0 step.1)
            | inr stops ↦ inr (Err (Stopped stops.0), stopped_at goes so stops.0 broke.0 stops.1)
          ],
          GrowsByPrefix-more (held before) (held goes.between) (held after) so.text broke.0 so.written broke.2,
        )
    to_break Memory goes few =
        let so = has_written start goes.middle before goes.between goes.units goes.leads in
        let off = goes.breaks in (
          near_break goes so [] (rw off.broken.faults.1 (Grows-nothing (held goes.between))) few,
          so.text,
          record {
            units = goes.units;
            rest = goes.left;
            state = goes.middle;
            passes = record { whole = goes.begins; each = goes.each; goes = so.goes };
            allocates = inl (off.unit, off.rest, (off.lawful, off.prefix), off.broken.faults.0);
          },
          rw off.broken.faults.1 so.written,
        )
    to_break (Stopped why) goes few =
        let so = has_written start goes.middle before goes.between goes.units goes.leads in
        let broke = goes.breaks.broken.faults in
        (so.text ++ broke.0, stopped_at goes so why broke.0 broke.1, Grows-more (held before) (held goes.between) (held after) so.text broke.0 so.written broke.2)
    to_break Read goes few = absurd goes.breaks.broken.faults
    to_break NotFlow goes few = absurd goes.breaks.broken.faults
    to_break (Torn n) goes few = absurd goes.breaks.broken.faults
    to_break TooLong goes few = absurd goes.breaks.broken.faults

    -- only a failed write is blamed
    pub break_blames : (fault : Fault B) → ToBreak fault → Blames (fault ≡ Write) (faults before) (faults after)
    break_blames fault goes =
        let so = has_written start goes.middle before goes.between goes.units goes.leads in
        blames_later (faults before) (faults goes.between) (faults after) so.quiet (λ e. e) (λ e. e) goes.breaks.broken.cause

    -- going through units breaks off with no fault of the source
    pub not_read : (fault : Fault B) → ToBreak fault → fault ≢ Read
    not_read Write goes e = absurd cc
    not_read Memory goes e = absurd cc
    not_read NotFlow goes e = absurd cc
    not_read TooLong goes e = absurd cc
    not_read (Torn n) goes e = absurd cc
    not_read (Stopped why) goes e = absurd cc
    not_read Read goes e = absurd goes.breaks.broken.faults

    pub no_read_broken : (fault : Fault B) → ToBreak fault → (was now : ℕ) → now ≡ was → Blames (◌≡◌ {A = Ended B} (Err fault) (Err Read)) was now
    no_read_broken fault goes was now same = blames_nobody was now (λ e. not_read fault goes (same_fault (Unit {0}) (Fault B) fault Read e)) same
