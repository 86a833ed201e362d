-- What first bytes result in if more follow is what they result in when their number is the limit, whatever follows.
use Rattle.std.proofs.Common.{◌≡◌, ◌+◌, ◌<◌, ◌↔◌, ℕ, List, [], ◌∷◌, ◌++◌, Ok, Err, length, take, inl, inr, append-nil, length-append, refl, sym, ap, ◌∙◌, subst, arith}
use Rattle.std.proofs.Math.Seq.{take-append-add}
use Rattle.std.proofs.lemmas.List.{take_at}
use Rattle.wire_records.specs.Grammars.{encode_all}
use Rattle.wire_records.specs.Reading.{Ending, End}
use Rattle.wire_records.specs.Reading as reading
use Rattle.wire_records.specs.declared.version.Version.{Version}
use Rattle.wire_records.proofs.ReadingLaws.{none_in_none}
use Rattle.word_driver.specs.declared.fault.Fault.TheVariants.{Read, Write, Memory, NotFlow, Torn, TooLong, Stopped}
use Rattle.word_driver.specs.Ended.{Ended}
use Rattle.word_driver.specs.Word.{Word, AtEnd, Halts, ComesOn, Comes}
use Rattle.word_driver.specs.Does.{task}
use Rattle.word_driver.specs.Laws.{IsExact}

-- whether more follow may be said in another way
module _ {U S B : Type 0} (w : Word U S B) (P Q : Type 0) (same : P ↔ Q) where
  at_end_alike : (place : ℕ) (rest : List ℕ) (ending : Ending) → AtEnd w P place rest ending → AtEnd w Q place rest ending
  at_end_alike place rest End at = (at.0, (at.1.0, λ q. at.1.1 (same.1 q), at.1.2))
  at_end_alike place rest reading.TooLong at = (at.0, (at.1.0, same.0 at.1.1))
  at_end_alike place rest (reading.Torn n) at = (at.0, (at.1.0, elim at.1.1 [ inl over ↦ inl over | inr short ↦ inr (λ q. short.0 (same.1 q), short.1) ]))

  halts_alike : (place : ℕ) (rest : List ℕ) (state : S) (ended : Ended B) (last : List ℕ) → Halts w P place rest state ended last → Halts w Q place rest state ended last
  halts_alike place rest state (Ok done) last halts = (at_end_alike place rest End halts.0, halts.1)
  halts_alike place rest state (Err (Torn n)) last halts = (at_end_alike place rest (reading.Torn n) halts.0, halts.1)
  halts_alike place rest state (Err TooLong) last halts = (at_end_alike place rest reading.TooLong halts.0, halts.1)
  halts_alike place rest state (Err (Stopped why)) last (inl at) = inl at
  halts_alike place rest state (Err (Stopped why)) last (inr halts) = inr (at_end_alike place rest End halts.0, halts.1)
  halts_alike place rest state (Err NotFlow) last halts = halts
  halts_alike place rest state (Err Read) last halts = halts
  halts_alike place rest state (Err Write) last halts = halts
  halts_alike place rest state (Err Memory) last halts = halts

  pub comes_alike : (start : Version → S) (bytes : List ℕ) (ended : Ended B) (text : List ℕ) → Comes w start bytes P ended text → Comes w start bytes Q ended text
  comes_alike start bytes ended text (inl none) = inl none
  comes_alike start bytes ended text (inr (version, body, following, magic, is, (on, kept))) =
      let place = length (w.format.magics.encode version) + length (encode_all w.format.units on.units) in
      let way : ComesOn w Q (length (w.format.magics.encode version)) body (start version) ended following = record {
        units = on.units;
        rest = on.rest;
        state = on.state;
        so_far = on.so_far;
        last = on.last;
        passes = on.passes;
        halts = halts_alike place on.rest on.state ended on.last on.halts;
        writes = on.writes;
      } in
      inr (version, body, following, magic, is, (way, kept))

module _ {U S B : Type 0} (w : Word U S B) (start : Version → S) where
  -- more follow the first bytes
  more : (first : List ℕ) (next : ℕ) (following : List ℕ) → Unit {0} ↔ (length first < length (first ++ next ∷ following))
  more first next following = (λ _. omega (arith, length-append first (next ∷ following)), λ _. tt)

  pub comes_if_more : (first : List ℕ) (next : ℕ) (following : List ℕ) (ended : Ended B) (text : List ℕ) → Comes w start first (Unit {0}) ended text → (task w start).Comes (length first) (first ++ next ∷ following) ended text
  comes_if_more first next following ended text comes =
      let all = first ++ next ∷ following in
      subst (λ (xs : List ℕ). Comes w start xs (length first < length all) ended text) (sym (take_at first (next ∷ following) (length first) refl))
      (comes_alike w (Unit {0}) (length first < length all) (more first next following) start first ended text comes)

  pub comes_back : (first : List ℕ) (next : ℕ) (following : List ℕ) (ended : Ended B) (text : List ℕ) → (task w start).Comes (length first) (first ++ next ∷ following) ended text → Comes w start first (Unit {0}) ended text
  comes_back first next following ended text comes =
      let all = first ++ next ∷ following in
      let to = more first next following in
      comes_alike w (length first < length all) (Unit {0}) (to.1, to.0) start first ended text
      (subst (λ (xs : List ℕ). Comes w start xs (length first < length all) ended text) (take_at first (next ∷ following) (length first) refl) comes)

  -- what was written when memory ran out is what the bytes before result in if more follow
  pub lacks_begins : IsExact w → (limit : ℕ) (bytes : List ℕ) (text : List ℕ) → (task w start).Lacks limit bytes text → (n : ℕ) × (task w start).Begins limit bytes n text
  lacks_begins exact limit bytes text (version, body, following, magic, is, (on, kept)) =
      let encode = w.format.magics.encode version in
      let encoded = encode_all w.format.units on.units in
      let prefix : take (length encoded) body ≡ encoded = ap (take (length encoded)) on.passes.whole ∙ take_at encoded on.rest (length encoded) refl in
      let all : take (length encode + length encoded) (take limit bytes) ≡ encode ++ take (length encoded) body = ap (take (length encode + length encoded)) magic.1 ∙ take-append-add encode body (length encoded) in
      let none : ComesOn w (Unit {0}) (length encode) (take (length encoded) body) (start version) (Err TooLong) following = record {
        units = on.units;
        rest = [];
        state = on.state;
        so_far = following;
        last = [];
        passes = record { whole = prefix ∙ sym (append-nil encoded); each = on.passes.each; goes = on.passes.goes };
        halts = ((none_in_none w.format.units exact.readable.units, (exact.short, tt)), refl);
        writes = sym (append-nil following);
      } in
      (length encode + length encoded, (Err TooLong, inr (version, take (length encoded) body, following, (magic.0, all), is, (none, kept))))
