-- What a subcommand results in, from what its parts did.
use Rattle.std.proofs.Common.{◌≡◌, ◌↔◌, ◌+◌, ◌-◌, ◌<◌, ◌≤◌, ℕ, List, [], ◌++◌, Option, Some, None, Ok, Err, length, take, drop, inl, inr, append-nil, append_assoc, length-append, refl, sym, ap, ◌∙◌, subst, arith}
use Rattle.std.proofs.Math.Seq.{take-append-add}
use Rattle.std.proofs.lemmas.List.{take_at, take-append-le, take-append-drop}
use Rattle.std.proofs.lemmas.List.Elements.{All-nil}
use Rattle.flow_io.specs.Changes.{Change}
use Rattle.flow_io.specs.Streams.{Takes, Grows, GrowsByPrefix}
use Rattle.flow_io.specs.Windows.{WindowState}
use Rattle.flow_io.proofs.Growth.{Grows-nothing, Grows-more, GrowsByPrefix-more}
use Rattle.wire_records.specs.Grammars.{BeginsWith, BeginsWithNone, encode_all}
use Rattle.wire_records.specs.declared.version.Version.{Version}
use Rattle.wire_records.proofs.ReadingLaws.{none_in_none}
use Rattle.word_driver.specs.declared.fault.Fault.TheVariants.{Read, Write, Memory, NotFlow, Torn, TooLong, Stopped}
use Rattle.word_driver.specs.Ended.{Ended}
use Rattle.file_units.specs.Inputs.{known}
use Rattle.file_units.proofs.Gone.{considered}
use Rattle.word_driver.specs.Word.{Word, Passes, ComesOn, LacksOn, Comes, Lacks}
use Rattle.word_driver.specs.Laws.{IsExact, IsKept}
use Rattle.word_driver.specs.Private.{OpensAt, IsNearUnits, Ends, ContinuesFrom, IsNearAll, Finds, GoesOver}
use Rattle.word_driver.proofs.Alike.{comes_on_alike, lacks_on_alike}

module _ {U S B : Type 0} (w : Word U S B) (start : Version → S) (exact : IsExact w) (kept : IsKept w start) where
  -- what the bytes after the magic result in from the start is what all bytes result in
  opened : (version : Version) (bytes body following : List ℕ) (More : Type 0) (s : S) (ended : Ended B) → BeginsWith w.format.magics bytes version body → s ≡ start version
      → ComesOn w More 8 body s ended following → Comes w start bytes More ended (w.opens version ++ following)
  opened version bytes body following More s ended magic is on =
      let moved : ComesOn w More (length (w.format.magics.encode version)) body (start version) ended following =
      subst (λ (n : ℕ). ComesOn w More n body (start version) ended following) (sym (exact.magic version)) (subst (λ (t : S). ComesOn w More 8 body t ended following) is on)
      in
      inr (version, body, following, magic, refl, (moved, kept version moved.units moved.state moved.so_far moved.passes.each moved.passes.goes))

  lacking : (version : Version) (bytes body following : List ℕ) (More : Type 0) (s : S) → BeginsWith w.format.magics bytes version body → s ≡ start version
      → LacksOn w More 8 body s following → Lacks w start bytes More (w.opens version ++ following)
  lacking version bytes body following More s magic is on =
      let moved : LacksOn w More (length (w.format.magics.encode version)) body (start version) following =
      subst (λ (n : ℕ). LacksOn w More n body (start version) following) (sym (exact.magic version)) (subst (λ (t : S). LacksOn w More 8 body t following) is on)
      in
      (version, body, following, magic, refl, (moved, kept version moved.units moved.state following moved.passes.each moved.passes.goes))

  -- some first bytes begin with the magic too
  first_bytes : (version : Version) (bytes body : List ℕ) (n : ℕ) → BeginsWith w.format.magics bytes version body → BeginsWith w.format.magics (take (length (w.format.magics.encode version) + n) bytes) version (take n body)
  first_bytes version bytes body n magic =
      (magic.0, ap (take (length (w.format.magics.encode version) + n)) magic.1 ∙ take-append-add (w.format.magics.encode version) body n)

  -- the considered bytes after a magic of eight bytes
  module _ (limit : ℕ) (held : List ℕ) (version : Version) (magic : BeginsWith w.format.magics held version (drop 8 held)) (some : 8 ≤ length held) (within : length held ≤ limit) where
    considered_after : (more : List ℕ) → BeginsWith w.format.magics (take limit (held ++ more)) version (take (limit - 8) (drop 8 held ++ more))
    considered_after more =
        let encoded = w.format.magics.encode version in
        let parts : limit ≡ length encoded + (limit - 8) = omega (arith, exact.magic version, some, within) in
        let whole : held ++ more ≡ encoded ++ (drop 8 held ++ more) = ap (λ xs. xs ++ more) magic.1 ∙ append_assoc encoded (drop 8 held) more in
        (magic.0, ap (take limit) whole ∙ ap (λ n. take n (encoded ++ (drop 8 held ++ more))) parts ∙ take-append-add encoded (drop 8 held ++ more) (limit - 8))

    longer_after : (more : List ℕ) → (limit - 8 < length (drop 8 held ++ more)) ↔ (limit < length (held ++ more))
    longer_after more =
        let size : length (held ++ more) ≡ 8 + length (drop 8 held ++ more) = ap length (ap (λ xs. xs ++ more) magic.1 ∙ append_assoc (w.format.magics.encode version) (drop 8 held) more)
        ∙ length-append (w.format.magics.encode version) (drop 8 held ++ more) ∙ ap (λ n. n + length (drop 8 held ++ more)) (exact.magic version) in
        (λ p. omega (arith, p, size, some, within), λ q. omega (arith, q, size, some, within))

    seen_after : (more : List ℕ) → length (held ++ more) ≡ length (w.format.magics.encode version) + length (drop 8 held ++ more)
    seen_after more = ap length (ap (λ xs. xs ++ more) magic.1 ∙ append_assoc (w.format.magics.encode version) (drop 8 held) more) ∙ length-append (w.format.magics.encode version) (drop 8 held ++ more)

  module _ (limit : ℕ) (held : List ℕ) (source : Change) (before middle after : Option (List ℕ)) (faults between later : ℕ) (state : S) (IsReady : ℕ → Type 0) (opening : List ℕ) (some : 8 ≤ length held) (within : length held ≤ limit) where
    abbrev pub out : Change
    out = record { before = before; after = after; faults = faults; faults_after = later }

    abbrev pub following : Change
    following = record { before = middle; after = after; faults = between; faults_after = later }

    -- the opening was written, and then the units were gone through to an end
    module _ (begun : OpensAt w start held state IsReady opening) (written : Grows before middle opening) (taken : List ℕ) where
      abbrev Considered : Type 0
      Considered = limit < length (held ++ known taken source.after)

      abbrev Later : Type 0
      Later = limit - 8 < length (drop 8 held ++ known taken source.after)

      abbrev bytes : List ℕ
      bytes = take limit (held ++ known taken source.after)

      abbrev body : List ℕ
      body = take (limit - 8) (drop 8 held ++ known taken source.after)

      at_magic : BeginsWith w.format.magics bytes begun.version body
      at_magic = considered_after limit held begun.version begun.magic some within (known taken source.after)

      comes : (ended : Ended B) (text : List ℕ) → ComesOn w Later 8 body state ended text → Comes w start bytes Considered ended (w.opens begun.version ++ text)
      comes ended text on =
          opened begun.version bytes body text Considered state ended at_magic begun.starts (comes_on_alike w Later Considered (longer_after limit held begun.version begun.magic some within (known taken source.after)) 8 body state ended text on)

      more_written : (text : List ℕ) → Grows middle after text → Grows before after (w.opens begun.version ++ text)
      more_written text onward = Grows-more before middle after (w.opens begun.version) text (rw begun.opening at written) onward

      near_all : IsNearUnits w (w.longest + 1) body state (drop 8 held ++ taken) middle after → IsNearAll w start Considered bytes (w.longest + 1) (held ++ taken) source.after before after
      near_all near =
          let encoded = w.format.magics.encode begun.version in
          let passes = subst (λ (t : S). Passes w body t near.units near.left near.state near.text) begun.starts near.passes in (
            length encoded + length (encode_all w.format.units near.units),
            omega (arith, near.near, seen_after limit held begun.version begun.magic some within taken),
            inr (
              w.opens begun.version ++ near.text,
              near.more,
              (begun.version, body, near.text, at_magic, refl, (near.units, near.left, near.state, passes, kept begun.version near.units near.state near.text passes.each passes.goes, refl)),
              subst (λ (xs : List ℕ). Grows before after xs) (sym (append_assoc (w.opens begun.version) near.text near.more)) (more_written (near.text ++ near.more) near.written),
            ),
          )

      pub found : (ended : Ended B) → Ends w Later 8 body state (w.longest + 1) (drop 8 held ++ taken) source.after ended middle after → Finds w start Considered bytes (w.longest + 1) (held ++ taken) source.after ended before after
      found (Ok done) (none, text, on, onward) = (none, w.opens begun.version ++ text, comes (Ok done) text on, more_written text onward)
      found (Err (Torn n)) (text, on, onward) = (w.opens begun.version ++ text, comes (Err (Torn n)) text on, more_written text onward)
      found (Err TooLong) (text, on, onward) = (w.opens begun.version ++ text, comes (Err TooLong) text on, more_written text onward)
      found (Err (Stopped why)) (text, on, onward) = (w.opens begun.version ++ text, comes (Err (Stopped why)) text on, more_written text onward)
      found (Err Memory) (near, text, on, onward) = (
        near_all near,
        w.opens begun.version ++ text,
        lacking begun.version bytes body text Considered state at_magic begun.starts (lacks_on_alike w Later Considered (longer_after limit held begun.version begun.magic some within (known taken source.after)) 8 body state text on),
        more_written text onward,
      )
      found (Err Write) (near, text, gets, onward) = (
        near_all near,
        w.opens begun.version ++ text,
        elim gets [
          | inl (n, ended, on) ↦ inl (
            length (w.format.magics.encode begun.version) + n,
            ended,
            opened begun.version (take (length (w.format.magics.encode begun.version) + n) bytes) (take n body) text (Unit {0}) state ended (first_bytes begun.version bytes body n at_magic) begun.starts on,
          )
          | inr (ended, on) ↦ inr (ended, comes ended text on)
        ],
        GrowsByPrefix-more before middle after (w.opens begun.version) text (rw begun.opening at written) onward,
      )
      found (Err Read) (text, on, onward) =
          let n = length (drop 8 held ++ taken) in
          let first : BeginsWith w.format.magics (take (length (held ++ taken)) bytes) begun.version (take n body) =
          subst (λ (k : ℕ). BeginsWith w.format.magics (take k bytes) begun.version (take n body)) (sym (seen_after limit held begun.version begun.magic some within taken)) (first_bytes begun.version bytes body n at_magic)
          in
          (Err TooLong, w.opens begun.version ++ text, opened begun.version (take (length (held ++ taken)) bytes) (take n body) text (Unit {0}) state (Err TooLong) first begun.starts on, more_written text onward)
      found (Err NotFlow) ends = absurd ends

    pub goes_over : (begun : OpensAt w start held state IsReady opening) → Grows before middle opening → (window : WindowState) → window.held ≡ drop 8 held → window.place ≡ 8 → window.limit ≡ limit → (ended : Ended B) → ContinuesFrom w (w.longest + 1) window state ended source following → GoesOver w start limit held ended source out
    goes_over begun written window is place same ended on =
        let few = on.few in
        record {
          taken = on.taken;
          takes = on.takes;
          few = omega (arith, rw (is, place, same) at few, seen_after limit held begun.version begun.magic some within on.taken, exact.magic begun.version, length-append held on.taken, length-append (drop 8 held) on.taken, some, within);
          finds = found begun written on.taken ended (rw (is, place, same) at on.ends);
        }

  -- ---- nothing was read past what a new window holds

  nothing_known : (told : Option (List ℕ)) → Takes told told []
  nothing_known None = tt
  nothing_known (Some left) = refl

  module _ (limit : ℕ) (held : List ℕ) (told : Option (List ℕ)) (faults : ℕ) (before after : Option (List ℕ)) (out_faults later : ℕ) (some : 8 ≤ length held) (within : length held ≤ limit) (few : length held ≤ w.longest) where
    abbrev pub same_source : Change
    same_source = record { before = told; after = told; faults = faults; faults_after = faults }

    abbrev pub changed_out : Change
    changed_out = record { before = before; after = after; faults = out_faults; faults_after = later }

    near_none : (More : Type 0) → IsNearAll w start More (take limit (held ++ known [] told)) (w.longest + 1) (held ++ []) told before after
    near_none More = (8, omega (arith, few, length-append held []), inl refl)

    none_taken : length held + length {A = ℕ} [] ≤ limit + 1
    none_taken = omega (arith, within)

    -- the write of the opening was cut
    pub over_cut : (state : S) (IsReady : ℕ → Type 0) (opening : List ℕ) (begun : OpensAt w start held state IsReady opening) → GrowsByPrefix before after opening → GoesOver w start limit held (Err Write) same_source changed_out
    over_cut state IsReady opening begun written =
        let bytes = take limit (held ++ known [] told) in
        let body = take (limit - 8) (drop 8 held ++ known [] told) in
        let magic = considered_after limit held begun.version begun.magic some within (known [] told) in
        let none : ComesOn w (Unit {0}) 8 (take 0 body) state (Err TooLong) [] = record {
          units = [];
          rest = [];
          state = state;
          so_far = [];
          last = [];
          passes = record { whole = refl; each = All-nil w.format.units.IsLawful; goes = (refl, refl) };
          halts = ((none_in_none w.format.units exact.readable.units, (exact.short, tt)), refl);
          writes = refl;
        } in
        record {
          taken = [];
          takes = nothing_known told;
          few = none_taken;
          finds = (
            near_none (limit < length (held ++ known [] told)),
            w.opens begun.version ++ [],
            inl (
              length (w.format.magics.encode begun.version) + 0,
              Err TooLong,
              opened begun.version (take (length (w.format.magics.encode begun.version) + 0) bytes) (take 0 body) [] (Unit {0}) state (Err TooLong) (first_bytes begun.version bytes body 0 magic) begun.starts none,
            ),
            subst (λ (x : List ℕ). GrowsByPrefix before after x) (begun.opening ∙ sym (append-nil (w.opens begun.version))) written,
          );
        }

    -- the bytes begin with no magic
    no_magic : BeginsWithNone w.format.magics held → BeginsWithNone w.format.magics (take limit (held ++ known [] told))
    no_magic none version rest lawful e =
        let encoded = w.format.magics.encode version in
        let more = take (limit - length held) (known [] told) in
        let whole : held ++ more ≡ encoded ++ rest = sym (considered limit held (known [] told) within) ∙ e in
        let prefix : take 8 held ≡ encoded = sym (take-append-le 8 held more some) ∙ ap (take 8) whole ∙ take_at encoded rest 8 (exact.magic version) in
        none version (drop 8 held) lawful (sym (take-append-drop 8 held) ∙ ap (λ xs. xs ++ drop 8 held) prefix)

    pub over_other : BeginsWithNone w.format.magics held → after ≡ before → GoesOver w start limit held (Err NotFlow) same_source changed_out
    over_other none same = record {
      taken = [];
      takes = nothing_known told;
      few = none_taken;
      finds = ([], inl (refl, no_magic none, refl), rw same (Grows-nothing before));
    }
