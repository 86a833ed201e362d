-- No bytes are without an end and a text. Cases that the logic doesn't decide are told apart under a double negation.
use Rattle.std.proofs.Common.{◌≡◌, ◌+◌, ◌<◌, ℕ, List, [], ◌∷◌, ◌++◌, All, Ok, Err, ◌⊎◌, inl, inr, length, take, append-nil, append_assoc, refl, sym, ap, ◌∙◌, subst, arith}
use Rattle.std.proofs.lemmas.Bool.{cases_lt}
use Rattle.std.proofs.lemmas.List.{flat_map_more}
use Rattle.std.proofs.lemmas.List.Elements.{All-nil, All-push, All-head, All-tail}
use Rattle.wire_records.specs.Grammars.{encode_all}
use Rattle.wire_records.specs.Reading.{Ending, End}
use Rattle.wire_records.specs.Reading as reading
use Rattle.wire_records.specs.declared.version.Version.{Version}
use Rattle.wire_records.proofs.ReadingLaws.{reads_on_some}
use Rattle.word_driver.specs.declared.fault.Fault.TheVariants.{NotFlow, Torn, TooLong, Stopped}
use Rattle.word_driver.specs.Ended.{Ended}
use Rattle.word_driver.specs.Word.{Word, Passes, AtEnd, Halts, ComesOn}
use Rattle.word_driver.specs.Laws.{IsExact, IsKept, IsNotDenied, HasNext, SomeEnd}
use Rattle.word_driver.proofs.Going.{goes_more}
use Rattle.word_driver.proofs.Denying.{not_denied, follows}

module _ {U S B : Type 0} (w : Word U S B) (start : Version → S) (exact : IsExact w) (next : HasNext w start) (version : Version) (More : Type 0) (place : ℕ) (body : List ℕ) where
  -- there is an end from the start on
  abbrev pub HasEnd : Type 0
  HasEnd = (ended : Ended B) × (text : List ℕ) × ComesOn w More place body (start version) ended text

  ends : (ended : Ended B) (units : List U) (rest : List ℕ) (s : S) (x last : List ℕ) → Passes w body (start version) units rest s x → Halts w More (place + length (encode_all w.format.units units)) rest s ended last → HasEnd
  ends ended units rest s x last passes halts = (ended, x ++ last, record { units = units; rest = rest; state = s; so_far = x; last = last; passes = passes; halts = halts; writes = refl })

  -- there is an end after all complete units
  ends_by : (ending : Ending) (units : List U) (rest : List ℕ) (s : S) (x : List ℕ) → Passes w body (start version) units rest s x → AtEnd w More (place + length (encode_all w.format.units units)) rest ending → IsNotDenied HasEnd
  ends_by (reading.Torn n) units rest s x passes at = not_denied (ends (Err (Torn n)) units rest s x [] passes (at, refl))
  ends_by reading.TooLong units rest s x passes at = not_denied (ends (Err TooLong) units rest s x [] passes (at, refl))
  ends_by End units rest s x passes at =
      follows (λ found. elim found [
        | inl (last, closes) ↦ not_denied (ends (Ok tt) units rest s x last passes (at, closes))
        | inr (why, last, stops) ↦ not_denied (ends (Err (Stopped why)) units rest s x last passes (inr (at, stops)))
      ]) (next.some_close version units s x passes.goes)

  -- there is an end, unit after unit
  goes_to_end : (ending : Ending) (units done todo : List U) (rest : List ℕ) (s : S) (x : List ℕ) → units ≡ done ++ todo → All w.format.units.IsLawful todo → AtEnd w More (place + length (encode_all w.format.units units)) rest ending
      → Passes w body (start version) done (encode_all w.format.units todo ++ rest) s x → IsNotDenied HasEnd
  goes_to_end ending units done [] rest s x parts lawful at passes =
      let same : units ≡ done = parts ∙ append-nil done in
      ends_by ending done rest s x passes (subst (λ (us : List U). AtEnd w More (place + length (encode_all w.format.units us)) rest ending) same at)
  goes_to_end ending units done (u ∷ todo) rest s x parts lawful at passes =
      let g = w.format.units in
      let first = All-head g.IsLawful u todo lawful in
      let prefix : encode_all g (u ∷ todo) ++ rest ≡ g.encode u ++ (encode_all g todo ++ rest) = append_assoc (g.encode u) (encode_all g todo) rest in
      follows (λ found. elim found [
        | inl (t, y, step) ↦ goes_to_end ending units (done ++ u ∷ []) todo rest t (x ++ y) (parts ∙ sym (append_assoc done (u ∷ []) todo)) (All-tail g.IsLawful u todo lawful) at (record {
          whole = passes.whole ∙ ap (λ xs. encode_all g done ++ xs) prefix ∙ sym (append_assoc (encode_all g done) (g.encode u) (encode_all g todo ++ rest)) ∙ ap (λ xs. xs ++ (encode_all g todo ++ rest)) (flat_map_more g.encode [] done u);
          each = All-push g.IsLawful done u passes.each first;
          goes = goes_more w (start version) s t done u x y passes.goes step;
        })
        | inr (why, last, stops) ↦ not_denied (ends (Err (Stopped why)) done (encode_all g (u ∷ todo) ++ rest) s x last passes (inl (u, encode_all g todo ++ rest, (first, prefix), stops)))
      ]) (next.some_step version done s x u passes.goes first)

  pub comes_to_some : More ⊎ (¬ More) → IsNotDenied HasEnd
  comes_to_some more =
      let found = reads_on_some w.format exact.readable place More more body in
      let reads = found.2 in
      goes_to_end found.1 found.0 [] found.0 reads.rest (start version) [] refl reads.each (reads.none, reads.ends) (record { whole = reads.whole; each = All-nil w.format.units.IsLawful; goes = (refl, refl) })

module _ {U S B : Type 0} (w : Word U S B) (start : Version → S) (exact : IsExact w) (kept : IsKept w start) (next : HasNext w start) where
  more_or_not : (limit n : ℕ) → (limit < n) ⊎ (¬ (limit < n))
  more_or_not limit n = elim (cases_lt limit n) [ inl more ↦ inl more | inr not ↦ inr (λ more. omega (arith, more, not)) ]

  pub some_end : SomeEnd w start
  some_end limit bytes none =
      elim (exact.readable.magics.told (take limit bytes)) [
        | inl (version, body, magic) ↦
            comes_to_some w start exact next version (limit < length bytes) (length (w.format.magics.encode version)) body (more_or_not limit (length bytes))
            (λ found. none found.0 (w.opens version ++ found.1) (inr (version, body, found.1, magic, refl, (found.2, kept version found.2.units found.2.state found.2.so_far found.2.passes.each found.2.passes.goes))))
        | inr not ↦ none (Err NotFlow) [] (inl (refl, not, refl))
      ]
