-- Bytes result in at most one end and one text, and what the output holds earlier is a prefix of it.
use Rattle.std.proofs.Common.{◌≡◌, ◌+◌, ◌<◌, ℕ, List, [], ◌∷◌, ◌++◌, Some, None, Ok, Err, inl, inr, length, take, drop, append-nil, append_assoc, refl, sym, ap, ◌∙◌, subst, arith}
use Rattle.std.proofs.lemmas.List.{take-append-drop}
use Rattle.std.proofs.lemmas.List.Elements.{All-head, All-nil}
use Rattle.wire_records.specs.Grammars.{encode_all}
use Rattle.wire_records.specs.Reading.{Ending, End, EndsAs, ReadsOn}
use Rattle.wire_records.specs.Reading as reading
use Rattle.wire_records.specs.declared.version.Version.{Version}
use Rattle.wire_records.proofs.ReadingLaws.{reads_on_one}
use Rattle.word_driver.specs.declared.fault.Fault.TheVariants.{Read, Write, Memory, NotFlow, Torn, TooLong, Stopped}
use Rattle.word_driver.specs.Ended.{Ended}
use Rattle.word_driver.specs.Word.{Word, Passes, AtEnd, Halts, ComesOn, Comes, Lacks}
use Rattle.word_driver.specs.Laws.{IsExact, OneEnd, BegunIsAPrefix}
use Rattle.word_driver.proofs.Ahead.{IsStill, ahead, still_where_halts}

-- endings differ by their constructors
end_torn : (n : ℕ) → End ≡ reading.Torn n → ⊥
end_torn n e = absurd cc

end_long : End ≡ reading.TooLong → ⊥
end_long e = absurd cc

torn_long : (n : ℕ) → reading.Torn n ≡ reading.TooLong → ⊥
torn_long n e = absurd cc

same_place : (n m : ℕ) → reading.Torn n ≡ reading.Torn m → n ≡ m
same_place n m e = cc

module _ {U S B : Type 0} (w : Word U S B) (start : Version → S) (exact : IsExact w) where
  -- no unit is read at the end
  reads_none : (More : Type 0) (place : ℕ) (rest : List ℕ) (e : Ending) → AtEnd w More place rest e → ReadsOn w.format place More rest [] e
  reads_none More place rest e at = record {
    rest = rest;
    whole = refl;
    each = All-nil w.format.units.IsLawful;
    none = at.0;
    ends = subst (λ (n : ℕ). EndsAs w.format More rest n e) (omega arith) at.1;
  }

  -- two endings at one place are equal
  one_ending : (More : Type 0) (place : ℕ) (rest : List ℕ) (e f : Ending) → AtEnd w More place rest e → AtEnd w More place rest f → e ≡ f
  one_ending More place rest e f a b = (reads_on_one w.format exact.readable place More rest [] [] e f (reads_none More place rest e a) (reads_none More place rest f b)).1

  halts_one : (More : Type 0) (place : ℕ) (rest : List ℕ) (state : S) (e f : Ended B) (x y : List ℕ) → Halts w More place rest state e x → Halts w More place rest state f y → (e ≡ f) × (x ≡ y)
  halts_one More place rest state (Ok c) (Ok d) x y a b = (refl, exact.one_close state x y a.1 b.1)
  halts_one More place rest state (Ok d) (Err (Torn n)) x y a b = absurd (end_torn n (one_ending More place rest reading.End (reading.Torn n) a.0 b.0))
  halts_one More place rest state (Ok d) (Err TooLong) x y a b = absurd (end_long (one_ending More place rest reading.End reading.TooLong a.0 b.0))
  halts_one More place rest state (Ok d) (Err (Stopped why)) x y a (inl (u, more, prefix, stops)) = absurd (a.0.0 u more prefix.0 prefix.1)
  halts_one More place rest state (Ok d) (Err (Stopped why)) x y a (inr b) = absurd (exact.closes_or_stops state why x y a.1 b.1)
  halts_one More place rest state (Err (Torn n)) (Ok d) x y a b = absurd (end_torn n (sym (one_ending More place rest (reading.Torn n) reading.End a.0 b.0)))
  halts_one More place rest state (Err (Torn n)) (Err (Torn m)) x y a b = (ap (λ (k : ℕ). Err (Torn k)) (same_place n m (one_ending More place rest (reading.Torn n) (reading.Torn m) a.0 b.0)), a.1 ∙ sym b.1)
  halts_one More place rest state (Err (Torn n)) (Err TooLong) x y a b = absurd (torn_long n (one_ending More place rest (reading.Torn n) reading.TooLong a.0 b.0))
  halts_one More place rest state (Err (Torn n)) (Err (Stopped why)) x y a (inl (u, more, prefix, stops)) = absurd (a.0.0 u more prefix.0 prefix.1)
  halts_one More place rest state (Err (Torn n)) (Err (Stopped why)) x y a (inr b) = absurd (end_torn n (sym (one_ending More place rest (reading.Torn n) reading.End a.0 b.0)))
  halts_one More place rest state (Err TooLong) (Ok d) x y a b = absurd (end_long (sym (one_ending More place rest reading.TooLong reading.End a.0 b.0)))
  halts_one More place rest state (Err TooLong) (Err (Torn m)) x y a b = absurd (torn_long m (sym (one_ending More place rest reading.TooLong (reading.Torn m) a.0 b.0)))
  halts_one More place rest state (Err TooLong) (Err TooLong) x y a b = (refl, a.1 ∙ sym b.1)
  halts_one More place rest state (Err TooLong) (Err (Stopped why)) x y a (inl (u, more, prefix, stops)) = absurd (a.0.0 u more prefix.0 prefix.1)
  halts_one More place rest state (Err TooLong) (Err (Stopped why)) x y a (inr b) = absurd (end_long (sym (one_ending More place rest reading.TooLong reading.End a.0 b.0)))
  halts_one More place rest state (Err (Stopped why)) (Ok d) x y (inl (u, more, prefix, stops)) b = absurd (b.0.0 u more prefix.0 prefix.1)
  halts_one More place rest state (Err (Stopped why)) (Ok d) x y (inr a) b = absurd (exact.closes_or_stops state why y x b.1 a.1)
  halts_one More place rest state (Err (Stopped why)) (Err (Torn m)) x y (inl (u, more, prefix, stops)) b = absurd (b.0.0 u more prefix.0 prefix.1)
  halts_one More place rest state (Err (Stopped why)) (Err (Torn m)) x y (inr a) b = absurd (end_torn m (one_ending More place rest reading.End (reading.Torn m) a.0 b.0))
  halts_one More place rest state (Err (Stopped why)) (Err TooLong) x y (inl (u, more, prefix, stops)) b = absurd (b.0.0 u more prefix.0 prefix.1)
  halts_one More place rest state (Err (Stopped why)) (Err TooLong) x y (inr a) b = absurd (end_long (one_ending More place rest reading.End reading.TooLong a.0 b.0))
  halts_one More place rest state (Err (Stopped why)) (Err (Stopped other)) x y (inl (u, more, prefix, stops)) (inl (v, following, begins, halts)) =
      let one = exact.readable.units.one u v more following prefix.0 begins.0 (sym prefix.1 ∙ begins.1) in
      let same = exact.one_stop state (Some v) why other x y (subst (λ (z : U). w.Stops state (Some z) why x) one.0 stops) halts in
      (ap (λ (b : B). Err (Stopped b)) same.0, same.1)
  halts_one More place rest state (Err (Stopped why)) (Err (Stopped other)) x y (inl (u, more, prefix, stops)) (inr b) = absurd (b.0.0 u more prefix.0 prefix.1)
  halts_one More place rest state (Err (Stopped why)) (Err (Stopped other)) x y (inr a) (inl (v, following, begins, halts)) = absurd (a.0.0 v following begins.0 begins.1)
  halts_one More place rest state (Err (Stopped why)) (Err (Stopped other)) x y (inr a) (inr b) =
      let same = exact.one_stop state None why other x y a.1 b.1 in
      (ap (λ (b : B). Err (Stopped b)) same.0, same.1)
  halts_one More place rest state (Err NotFlow) f x y a b = absurd a
  halts_one More place rest state (Err Read) f x y a b = absurd a
  halts_one More place rest state (Err Write) f x y a b = absurd a
  halts_one More place rest state (Err Memory) f x y a b = absurd a
  halts_one More place rest state (Ok d) (Err NotFlow) x y a b = absurd b
  halts_one More place rest state (Ok d) (Err Read) x y a b = absurd b
  halts_one More place rest state (Ok d) (Err Write) x y a b = absurd b
  halts_one More place rest state (Ok d) (Err Memory) x y a b = absurd b
  halts_one More place rest state (Err (Torn n)) (Err NotFlow) x y a b = absurd b
  halts_one More place rest state (Err (Torn n)) (Err Read) x y a b = absurd b
  halts_one More place rest state (Err (Torn n)) (Err Write) x y a b = absurd b
  halts_one More place rest state (Err (Torn n)) (Err Memory) x y a b = absurd b
  halts_one More place rest state (Err TooLong) (Err NotFlow) x y a b = absurd b
  halts_one More place rest state (Err TooLong) (Err Read) x y a b = absurd b
  halts_one More place rest state (Err TooLong) (Err Write) x y a b = absurd b
  halts_one More place rest state (Err TooLong) (Err Memory) x y a b = absurd b
  halts_one More place rest state (Err (Stopped why)) (Err NotFlow) x y a b = absurd b
  halts_one More place rest state (Err (Stopped why)) (Err Read) x y a b = absurd b
  halts_one More place rest state (Err (Stopped why)) (Err Write) x y a b = absurd b
  halts_one More place rest state (Err (Stopped why)) (Err Memory) x y a b = absurd b

  -- a way that is still leads nowhere from where it is
  nowhere : (rest : List ℕ) (state : S) (more : List U) (left : List ℕ) (end : S) (text : List ℕ) → IsStill w exact rest state → Passes w rest state more left end text → (more ≡ []) × (left ≡ rest) × (end ≡ state) × (text ≡ [])
  nowhere rest state [] left end text still passes = (refl, sym passes.whole, passes.goes.0, passes.goes.1)
  nowhere rest state (u ∷ more) left end text still passes =
      absurd (still u (encode_all w.format.units more ++ left) passes.goes.0 passes.goes.1 (All-head w.format.units.IsLawful u more passes.each, passes.whole ∙ append_assoc (w.format.units.encode u) (encode_all w.format.units more) left) passes.goes.3)

  pub comes_on_one : (More : Type 0) (place : ℕ) (bytes : List ℕ) (s : S) (e f : Ended B) (x y : List ℕ) → ComesOn w More place bytes s e x → ComesOn w More place bytes s f y → (e ≡ f) × (x ≡ y)
  comes_on_one More place bytes s e f x y a b =
      let first = still_where_halts w exact More _ a.rest a.state e a.last a.halts in
      let second = still_where_halts w exact More _ b.rest b.state f b.last b.halts in
      let on = ahead w exact a.units b.units bytes s a.rest b.rest a.state b.state a.so_far b.so_far a.passes b.passes second in
      let none = nowhere a.rest a.state on.more b.rest b.state on.between first on.onward in
      let units : b.units ≡ a.units = on.parts ∙ ap (λ us. a.units ++ us) none.0 ∙ append-nil a.units in
      let same = halts_one More (place + length (encode_all w.format.units a.units)) a.rest a.state e f a.last b.last a.halts (rw (units, none.1, none.2) at b.halts) in
      (same.0, a.writes ∙ ap (λ xs. xs ++ a.last) (sym (on.text ∙ ap (λ xs. a.so_far ++ xs) none.3 ∙ append-nil a.so_far)) ∙ ap (λ xs. b.so_far ++ xs) same.1 ∙ sym b.writes)

  -- all bytes, the magic included, result in one end and one text
  comes_one : (bytes : List ℕ) (More : Type 0) (e f : Ended B) (x y : List ℕ) → Comes w start bytes More e x → Comes w start bytes More f y → (e ≡ f) × (x ≡ y)
  comes_one bytes More e f x y (inl a) (inl b) = (a.0 ∙ sym b.0, a.2 ∙ sym b.2)
  comes_one bytes More e f x y (inl a) (inr (version, body, following, magic, is, on)) = absurd (a.1 version body magic.0 magic.1)
  comes_one bytes More e f x y (inr (version, body, following, magic, is, on)) (inl b) = absurd (b.1 version body magic.0 magic.1)
  comes_one bytes More e f x y (inr (v, body, following, magic, is, on)) (inr (u, other, later, begins, also, goes)) =
      let one = exact.readable.magics.one v u body other magic.0 begins.0 (sym magic.1 ∙ begins.1) in
      let moved : ComesOn w More (length (w.format.magics.encode v)) body (start v) f later =
      subst (λ (xs : List ℕ). ComesOn w More (length (w.format.magics.encode v)) xs (start v) f later) (sym one.1)
      (subst (λ (z : Version). ComesOn w More (length (w.format.magics.encode z)) other (start z) f later) (sym one.0) goes.0)
      in
      let same = comes_on_one More (length (w.format.magics.encode v)) body (start v) e f following later on.0 moved in
      (same.0, is ∙ ap (λ (z : Version). w.opens z ++ following) one.0 ∙ ap (λ xs. w.opens u ++ xs) same.1 ∙ sym also)

  pub one_end : OneEnd w start
  one_end limit bytes e f x y a b = comes_one (take limit bytes) (limit < length bytes) e f x y a b

-- a text begins with another
abbrev Begins : List ℕ → List ℕ → Type 0
Begins text begun = (rest : List ℕ) × (text ≡ begun ++ rest)

module _ {U S B : Type 0} (w : Word U S B) (start : Version → S) (exact : IsExact w) where
  -- units that are passed before bytes are cut off are passed with these bytes too
  passes_on : (bytes more : List ℕ) (s : S) (units : List U) (r : List ℕ) (m : S) (x : List ℕ) → Passes w bytes s units r m x → Passes w (bytes ++ more) s units (r ++ more) m x
  passes_on bytes more s units r m x a = record {
    whole = ap (λ xs. xs ++ more) a.whole ∙ append_assoc (encode_all w.format.units units) r more;
    each = a.each;
    goes = a.goes;
  }

  -- The text of units that were passed is a prefix of what the bytes result in.
  pub passed_begins : (More : Type 0) (place : ℕ) (bytes : List ℕ) (s : S) (units : List U) (r : List ℕ) (m : S) (x : List ℕ) (f : Ended B) (text : List ℕ) → Passes w bytes s units r m x → ComesOn w More place bytes s f text → Begins text x
  passed_begins More place bytes s units r m x f text a b =
      let still = still_where_halts w exact More _ b.rest b.state f b.last b.halts in
      let on = ahead w exact units b.units bytes s r b.rest m b.state x b.so_far a b.passes still in
      (on.between ++ b.last, b.writes ∙ ap (λ xs. xs ++ b.last) on.text ∙ append_assoc x on.between b.last)

  -- the text of the units in some first bytes is a prefix of the text of all bytes
  begins_by : (More : Type 0) (place : ℕ) (bytes more : List ℕ) (s : S) (e f : Ended B) (begun text : List ℕ) (a : ComesOn w (Unit {0}) place bytes s e begun) → ComesOn w More place (bytes ++ more) s f text → Begins text a.so_far
  begins_by More place bytes more s e f begun text a b = passed_begins More place (bytes ++ more) s a.units (a.rest ++ more) a.state a.so_far f text (passes_on bytes more s a.units a.rest a.state a.so_far a.passes) b

  -- if the subcommand stopped at a unit of the first bytes, all bytes result in that stop
  stopped_begins : (More : Type 0) (place : ℕ) (bytes more : List ℕ) (s : S) (why : B) (f : Ended B) (begun text : List ℕ) (a : ComesOn w (Unit {0}) place bytes s (Err (Stopped why)) begun) → ComesOn w More place (bytes ++ more) s f text
      → Halts w (Unit {0}) (place + length (encode_all w.format.units a.units)) a.rest a.state (Err (Stopped why)) a.last → Begins text begun
  stopped_begins More place bytes more s why f begun text a b (inl (u, following, prefix, stops)) =
      let here : ComesOn w More place (bytes ++ more) s (Err (Stopped why)) begun = record {
        units = a.units;
        rest = a.rest ++ more;
        state = a.state;
        so_far = a.so_far;
        last = a.last;
        passes = passes_on bytes more s a.units a.rest a.state a.so_far a.passes;
        halts = inl (u, following ++ more, (prefix.0, ap (λ xs. xs ++ more) prefix.1 ∙ append_assoc (w.format.units.encode u) following more), stops);
        writes = a.writes;
      } in
      let same = comes_on_one w start exact More place (bytes ++ more) s (Err (Stopped why)) f begun text here b in
      ([], sym same.1 ∙ sym (append-nil begun))
  stopped_begins More place bytes more s why f begun text a b (inr (at, stops)) = absurd (at.1.1 tt)

  nothing_more : (text begun so_far last : List ℕ) → begun ≡ so_far ++ last → last ≡ [] → Begins text so_far → Begins text begun
  nothing_more text begun so_far last is none begins = (begins.0, begins.1 ∙ ap (λ xs. xs ++ begins.0) (sym (is ∙ ap (λ xs. so_far ++ xs) none ∙ append-nil so_far)))

  pub begins_on : (More : Type 0) (place : ℕ) (bytes more : List ℕ) (s : S) (e f : Ended B) (begun text : List ℕ) → ComesOn w (Unit {0}) place bytes s e begun → ComesOn w More place (bytes ++ more) s f text → Begins text begun
  begins_on More place bytes more s (Ok done) f begun text a b = absurd (a.halts.0.1.1 tt)
  begins_on More place bytes more s (Err (Torn n)) f begun text a b = nothing_more text begun a.so_far a.last a.writes a.halts.1 (begins_by More place bytes more s (Err (Torn n)) f begun text a b)
  begins_on More place bytes more s (Err TooLong) f begun text a b = nothing_more text begun a.so_far a.last a.writes a.halts.1 (begins_by More place bytes more s (Err TooLong) f begun text a b)
  begins_on More place bytes more s (Err (Stopped why)) f begun text a b = stopped_begins More place bytes more s why f begun text a b a.halts
  begins_on More place bytes more s (Err NotFlow) f begun text a b = absurd a.halts
  begins_on More place bytes more s (Err Read) f begun text a b = absurd a.halts
  begins_on More place bytes more s (Err Write) f begun text a b = absurd a.halts
  begins_on More place bytes more s (Err Memory) f begun text a b = absurd a.halts

  -- with the opening before it, a prefix is a prefix
  text_begins : (version other : Version) (begun text following later : List ℕ) → version ≡ other → begun ≡ w.opens version ++ following → text ≡ w.opens other ++ later → Begins later following → Begins text begun
  text_begins version other begun text following later same is also begins = (
    begins.0,
    also ∙ ap (λ (z : Version). w.opens z ++ later) (sym same) ∙ ap (λ xs. w.opens version ++ xs) begins.1 ∙ sym (append_assoc (w.opens version) following begins.0) ∙ ap (λ xs. xs ++ begins.0) (sym is),
  )

  front_begins : (bytes : List ℕ) (n : ℕ) (More : Type 0) (e f : Ended B) (begun text : List ℕ) → Comes w start (take n bytes) (Unit {0}) e begun → Comes w start bytes More f text → Begins text begun
  front_begins bytes n More e f begun text (inl a) b = (text, ap (λ xs. xs ++ text) (sym a.2))
  front_begins bytes n More e f begun text (inr (version, body, following, magic, is, on)) (inl b) =
      absurd (b.1 version (body ++ drop n bytes) magic.0 (sym (take-append-drop n bytes) ∙ ap (λ xs. xs ++ drop n bytes) magic.1 ∙ append_assoc (w.format.magics.encode version) body (drop n bytes)))
  front_begins bytes n More e f begun text (inr (v, body, following, magic, is, on)) (inr (u, other, later, begins, also, goes)) =
      let whole : bytes ≡ w.format.magics.encode v ++ (body ++ drop n bytes) = sym (take-append-drop n bytes) ∙ ap (λ xs. xs ++ drop n bytes) magic.1 ∙ append_assoc (w.format.magics.encode v) body (drop n bytes) in
      let one = exact.readable.magics.one v u (body ++ drop n bytes) other magic.0 begins.0 (sym whole ∙ begins.1) in
      let moved : ComesOn w More (length (w.format.magics.encode v)) (body ++ drop n bytes) (start v) f later =
      subst (λ (xs : List ℕ). ComesOn w More (length (w.format.magics.encode v)) xs (start v) f later) (sym one.1)
      (subst (λ (z : Version). ComesOn w More (length (w.format.magics.encode z)) other (start z) f later) (sym one.0) goes.0)
      in
      text_begins v u begun text following later one.0 is also (begins_on More (length (w.format.magics.encode v)) body (drop n bytes) (start v) e f following later on.0 moved)

  lack_begins : (bytes : List ℕ) (More : Type 0) (f : Ended B) (begun text : List ℕ) → Lacks w start bytes More begun → Comes w start bytes More f text → Begins text begun
  lack_begins bytes More f begun text (version, body, following, magic, is, on) (inl b) = absurd (b.1 version body magic.0 magic.1)
  lack_begins bytes More f begun text (v, body, following, magic, is, on) (inr (u, other, later, begins, also, goes)) =
      let one = exact.readable.magics.one v u body other magic.0 begins.0 (sym magic.1 ∙ begins.1) in
      let moved : ComesOn w More (length (w.format.magics.encode v)) body (start v) f later =
      subst (λ (xs : List ℕ). ComesOn w More (length (w.format.magics.encode v)) xs (start v) f later) (sym one.1)
      (subst (λ (z : Version). ComesOn w More (length (w.format.magics.encode z)) other (start z) f later) (sym one.0) goes.0)
      in
      text_begins v u begun text following later one.0 is also (passed_begins More (length (w.format.magics.encode v)) body (start v) on.0.units on.0.rest on.0.state following f later on.0.passes moved)

  pub begun_is_a_prefix : BegunIsAPrefix w start
  begun_is_a_prefix limit bytes n e begun text (inl (ended, first)) comes = front_begins (take limit bytes) n (limit < length bytes) ended e begun text first comes
  begun_is_a_prefix limit bytes n e begun text (inr lacks) comes = lack_begins (take limit bytes) (limit < length bytes) e begun text lacks comes
