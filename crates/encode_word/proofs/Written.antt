-- What was written, from the lines up to the whole input.
use Rattle.std.proofs.Common.{◌≡◌, ◌+◌, ◌<◌, ◌≤◌, ℕ, List, [], ◌++◌, Bool, Option, Some, None, Result, Ok, Err, IfSome, OnOk, IsTrue, length, take, drop, inl, inr, refl, sym, ap, ◌∙◌, subst, append-nil, arith}
use Rattle.std.proofs.lemmas.List.{drop_all}
use Rattle.std.proofs.lemmas.List.Elements.{All-nil}
use Rattle.flow_io.specs.declared.whole.WholeInput.{WholeInput}
use Rattle.flow_io.specs.declared.whole.ReadAllFault.{ReadAllFault}
use Rattle.flow_io.specs.declared.whole.ReadAllFault.TheVariants as reading
use Rattle.flow_io.specs.Faults.{Blames}
use Rattle.flow_io.specs.Streams.{Grows, GrowsByPrefix}
use Rattle.flow_io.specs.Whole.{IsWholeInput}
use Rattle.flow_io.proofs.Growth.{Grows-nothing, Grows-more, GrowsByPrefix-more}
use Rattle.wire_records.specs.Formats.{command_magic_of}
use Rattle.wire_records.specs.declared.version.Version.{Version}
use Rattle.word_driver.specs.declared.fault.Fault.TheVariants as fault
use Rattle.word_driver.specs.Ended.{Ended}
use Rattle.word_driver.specs.Does.{Determines, Meets}
use Rattle.line_records.specs.Lines.{HasNoFeed, AreFirst, encode_commands}
use Rattle.line_records.specs.Encoded.{HasEncoded}
use Rattle.line_records.proofs.Pieces.{lines_after, told}
use Rattle.encode_word.specs.declared.stop.EncodeStop.{EncodeStop}
use Rattle.encode_word.specs.declared.stop.EncodeStop.TheVariants as stop
use Rattle.encode_word.specs.Starts.{known_after, IsCut, BeginsUnkept}
use Rattle.encode_word.specs.Encoding.{LinesTo, LinesInto, LinesShort, EncodesInput, EncodesInto, EncodesShort}
use Rattle.encode_word.specs.Tasks.{encode_task}
use Rattle.encode_word.specs.Private.{FindsLines, EncodesAll, EndsEncoding}
use Rattle.encode_word.proofs.LinesTo.{EncodeEnds}
use Rattle.encode_word.proofs.Encoding.{encodes_one, encodes_alike, encodes_into_alike, encodes_short_alike}

-- nothing was written, since memory ran out
pub ends_out : (Comes : Ended EncodeStop → List ℕ → Type 0) (Into Short : List ℕ → Type 0) (held : Option (List ℕ)) → EndsEncoding Comes Into Short (Err fault.Memory) held held
ends_out Comes Into Short held = ([], inl refl, Grows-nothing held)

-- what follows from what bytes result in, from their first lines, and of where memory may run out, follows of what was written
module _ (Comes ComesTo : Ended EncodeStop → List ℕ → Type 0) (Into IntoThat Short ShortThat : List ℕ → Type 0) (to : (ended : Ended EncodeStop) (text : List ℕ) → Comes ended text → ComesTo ended text) (into : (text : List ℕ) → Into text → IntoThat text) (short : (text : List ℕ) → Short text → ShortThat text) where
  pub ends_map : (ended : Ended EncodeStop) (before after : Option (List ℕ)) → EndsEncoding Comes Into Short ended before after → EndsEncoding ComesTo IntoThat ShortThat ended before after
  ends_map (Ok done) before after ends = (ends.0, to (Ok tt) ends.0 ends.1, ends.2)
  ends_map (Err fault.TooLong) before after ends = (ends.0, to (Err fault.TooLong) ends.0 ends.1, ends.2)
  ends_map (Err (fault.Stopped why)) before after ends = (ends.0, to (Err (fault.Stopped why)) ends.0 ends.1, ends.2)
  ends_map (Err fault.Write) before after ends = (ends.0, into ends.0 ends.1, ends.2)
  ends_map (Err fault.Memory) before after (text, inl none, written) = (text, inl none, written)
  ends_map (Err fault.Memory) before after (text, inr lacks, written) = (text, inr (short text lacks), written)
  ends_map (Err fault.Read) before after ends = ends
  ends_map (Err fault.NotFlow) before after ends = ends
  ends_map (Err (fault.Torn n)) before after ends = ends

-- ---- lines, after the magic

module _ (version : Version) (known : List (List ℕ)) (More : Type 0) (bytes : List ℕ) where
  abbrev pub EndsLines : Ended EncodeStop → Option (List ℕ) → Option (List ℕ) → Type 0
  EndsLines = EndsEncoding (LinesTo version known More bytes) (LinesInto version known More bytes) (LinesShort version known More bytes)

  -- the magic and then the records were written
  all_written : (bad : Option ℕ) (ended : Ended EncodeStop) (before middle now : Option (List ℕ)) → Grows before middle (command_magic_of version) → HasEncoded version known More bytes bad middle now → EncodeEnds More bad ended
      → (text : List ℕ) × LinesTo version known More bytes ended text × Grows before now text
  all_written bad ended before middle now magic encoded ends = (
    command_magic_of version ++ encode_commands encoded.commands,
    record { bad = bad; commands = encoded.commands; reads = encoded.read; ends = ends; writes = refl },
    Grows-more before middle now (command_magic_of version) (encode_commands encoded.commands) magic encoded.written,
  )

  -- by the end
  pub file_written : (ended : Ended EncodeStop) (before middle now : Option (List ℕ)) → Grows before middle (command_magic_of version) → EncodesAll version known More bytes ended middle now → EndsLines ended before now
  file_written (Ok done) before middle now magic encoded = all_written None (Ok tt) before middle now magic encoded.0 (inl (encoded.1, refl))
  file_written (Err fault.TooLong) before middle now magic encoded = all_written None (Err fault.TooLong) before middle now magic encoded.0 (inr (encoded.1, refl))
  file_written (Err (fault.Stopped (stop.NoCommand number))) before middle now magic encoded = all_written (Some number) (Err (fault.Stopped (stop.NoCommand number))) before middle now magic encoded refl
  file_written (Err (fault.Stopped stop.NoCheckpoint)) before middle now magic encoded = absurd encoded
  file_written (Err fault.Write) before middle now magic (commands, first, cut) = (
    command_magic_of version ++ encode_commands commands,
    record { commands = commands; first = first; writes = refl },
    GrowsByPrefix-more before middle now (command_magic_of version) (encode_commands commands) magic cut,
  )
  file_written (Err fault.Memory) before middle now magic (commands, first, written) = (
    command_magic_of version ++ encode_commands commands,
    inr (record { commands = commands; first = first; writes = refl }),
    Grows-more before middle now (command_magic_of version) (encode_commands commands) magic written,
  )
  file_written (Err fault.Read) before middle now magic encoded = encoded
  file_written (Err fault.NotFlow) before middle now magic encoded = encoded
  file_written (Err (fault.Torn n)) before middle now magic encoded = encoded

-- the write of the magic failed
pub none_written : (version : Version) (known : List (List ℕ)) (more : Bool) (bytes : List ℕ) (before now : Option (List ℕ)) → GrowsByPrefix before now (command_magic_of version) → EndsLines version known (IsTrue more) bytes (Err fault.Write) before now
none_written version known more bytes before now cut =
    let all = lines_after (IsTrue more) (told more) bytes bytes [] refl (All-nil HasNoFeed) in
    let first : AreFirst version known (IsTrue more) bytes [] = record { lines = [] ++ all.0; read = []; more = all.0; tickers = known; split = all.1; prefix = refl; say = (refl, refl) } in
    (command_magic_of version, record { commands = []; first = first; writes = sym (append-nil (command_magic_of version)) }, cut)

-- ---- what is before the lines

module _ (version : Version) (More : Type 0) (bytes : List ℕ) where
  abbrev pub EndsBytes : Ended EncodeStop → Option (List ℕ) → Option (List ℕ) → Type 0
  EndsBytes = EndsEncoding (EncodesInput version More bytes) (EncodesInto version More bytes) (EncodesShort version More bytes)

  -- after what was found
  pub found_written : (tickers : List (List ℕ)) (place : ℕ) → FindsLines version More bytes tickers place → (ended : Ended EncodeStop) (before now : Option (List ℕ)) → EndsLines version tickers More (drop place bytes) ended before now → EndsBytes ended before now
  found_written tickers place (start, begins, are) ended before now ends =
      let lines = drop place bytes in
      let here = subst (λ known. EndsLines version known More lines ended before now) are ends in
      ends_map (LinesTo version (known_after start) More lines) (EncodesInput version More bytes) (LinesInto version (known_after start) More lines) (EncodesInto version More bytes) (LinesShort version (known_after start) More lines) (EncodesShort version More bytes)
      (λ end text to. inl (record { start = start; lines = lines; begins = begins; comes = to })) (λ text into. record { start = start; lines = lines; begins = begins; into = into })
      (λ text short. record { start = start; lines = lines; begins = begins; short = short }) ended before now here

  pub cut_written : IsCut More bytes → (held : Option (List ℕ)) → EndsBytes (Err fault.TooLong) held held
  cut_written cut held = ([], inr (inr (cut, refl, refl)), Grows-nothing held)

  pub unkept_written : BeginsUnkept version bytes → (held : Option (List ℕ)) → EndsBytes (Err (fault.Stopped stop.NoCheckpoint)) held held
  unkept_written unkept held = ([], inr (inl (unkept, refl, refl)), Grows-nothing held)

  -- if all was done, the input has no more
  pub done_written : (text : List ℕ) → EncodesInput version More bytes (Ok tt) text → More → ⊥
  done_written text (inl lines) more = ends_done lines.comes.bad lines.comes.ends
    where
      ends_done : (bad : Option ℕ) → EncodeEnds More bad (Ok tt) → ⊥
      ends_done (Some number) e = absurd cc
      ends_done None (inl done) = done.0 more
      ends_done None (inr long) = absurd (let e = long.1 in cc)
  done_written text (inr (inl unkept)) more = absurd (let e = unkept.1 in cc)
  done_written text (inr (inr cut)) more = absurd (let e = cut.1 in cc)

  -- encoding bytes is no read of the source
  pub no_read : (ended : Ended EncodeStop) (before now : Option (List ℕ)) → EndsBytes ended before now → ended ≡ Err fault.Read → ⊥
  no_read ended before now ends e = subst (λ (z : Ended EncodeStop). EndsBytes z before now) e ends

  pub read_quietly : (ended : Ended EncodeStop) (before now : Option (List ℕ)) → EndsBytes ended before now → (faults later : ℕ) → later ≡ faults → Blames (ended ≡ Err fault.Read) faults later
  read_quietly ended before now ends faults later same = record { later = omega (arith, same); rose = λ e. absurd (no_read ended before now ends e); quiet = λ _. same }

-- ---- over what the source had

module _ (version : Version) (limit : ℕ) (left : List ℕ) (after : Option (List ℕ)) (input : WholeInput) (whole : IsWholeInput limit left input) where
  determines : (ended : Ended EncodeStop) (before now : Option (List ℕ)) → (text : List ℕ) × EncodesInput version (IsTrue input.more) input.bytes.items ended text × Grows before now text → Determines (encode_task version) limit left ended before now
  determines ended before now (text, encodes, written) =
      let here = subst (λ (xs : List ℕ). EncodesInput version (limit < length left) xs ended text) whole.bytes (encodes_alike version (IsTrue input.more) (limit < length left) whole.more input.bytes.items ended text encodes) in
      (text, here, written, λ other words comes. encodes_one version (limit < length left) (take limit left) other ended words text comes here)

  into : (text : List ℕ) → EncodesInto version (IsTrue input.more) input.bytes.items text → EncodesInto version (limit < length left) (take limit left) text
  into text so = subst (λ (xs : List ℕ). EncodesInto version (limit < length left) xs text) whole.bytes (encodes_into_alike version (IsTrue input.more) (limit < length left) whole.more input.bytes.items text so)

  short : (text : List ℕ) → EncodesShort version (IsTrue input.more) input.bytes.items text → EncodesShort version (limit < length left) (take limit left) text
  short text so = subst (λ (xs : List ℕ). EncodesShort version (limit < length left) xs text) whole.bytes (encodes_short_alike version (IsTrue input.more) (limit < length left) whole.more input.bytes.items text so)

  -- by the end
  meets : (ended : Ended EncodeStop) (before now : Option (List ℕ)) → EndsBytes version (IsTrue input.more) input.bytes.items ended before now → Meets (encode_task version) limit left after ended before now
  meets (Ok done) before now ends = determines (Ok tt) before now ends
  meets (Err fault.TooLong) before now ends = determines (Err fault.TooLong) before now ends
  meets (Err (fault.Stopped why)) before now ends = determines (Err (fault.Stopped why)) before now ends
  meets (Err fault.Write) before now (text, so, cut) = (text, inl (0, inr (into text so)), cut)
  meets (Err fault.Memory) before now (text, inl none, written) = (text, inr (inl none), written)
  meets (Err fault.Memory) before now (text, inr so, written) = (text, inr (inr (short text so)), written)
  meets (Err fault.Read) before now ends = absurd ends
  meets (Err fault.NotFlow) before now ends = absurd ends
  meets (Err (fault.Torn n)) before now ends = absurd ends

module _ (version : Version) where
  pub meets_told : (told after : Option (List ℕ)) (limit : ℕ) (input : WholeInput) (ended : Ended EncodeStop) (before now : Option (List ℕ)) → IfSome told (λ left. IsWholeInput limit left input) → EndsBytes version (IsTrue input.more) input.bytes.items ended before now
      → IfSome told (λ left. Meets (encode_task version) limit left after ended before now)
  meets_told None after limit input ended before now whole ends = tt
  meets_told (Some left) after limit input ended before now whole ends = meets version limit left after input whole ended before now ends

  -- if all was done, nothing is left
  pub left_told : (told after : Option (List ℕ)) (limit : ℕ) (input : WholeInput) (ended : Ended EncodeStop) (before now : Option (List ℕ)) → IfSome told (λ left. IsWholeInput limit left input) → IfSome told (λ left. after ≡ Some (drop (limit + 1) left))
      → EndsBytes version (IsTrue input.more) input.bytes.items ended before now → OnOk ended (IfSome told (λ left. after ≡ Some []))
  left_told None after limit input (Ok done) before now whole taken ends = tt
  left_told (Some left) after limit input (Ok done) before now whole taken ends =
      let few : length left ≤ limit = omega (arith, λ (above : limit < length left). done_written version (IsTrue input.more) input.bytes.items ends.0 ends.1 (whole.more.1 above)) in
      taken ∙ ap (λ (xs : List ℕ). Some xs) (drop_all (limit + 1) left (omega arith))
  left_told told after limit input (Err why) before now whole taken ends = tt

-- running out of memory is no fault of the source
same_why : (T F : Type 0) (a b : F) → ◌≡◌ {A = Result T F} (Err a) (Err b) → a ≡ b
same_why T F a b e = cc

pub memory_is_not_read : (T : Type 0) (why : ReadAllFault) → why ≡ reading.Memory → ◌≡◌ {A = Result T ReadAllFault} (Err why) (Err reading.Read) → ⊥
memory_is_not_read T why memory e = absurd (let same : reading.Memory ≡ reading.Read = sym memory ∙ same_why T ReadAllFault why reading.Read e in cc)
