-- Of two ways over the same units, one that can't continue is at least as far.
use Rattle.std.proofs.Common.{◌≡◌, ℕ, List, [], ◌∷◌, ◌++◌, Some, Ok, Err, inl, inr, append_assoc, refl, sym, ap, ◌∙◌, subst}
use Rattle.std.proofs.lemmas.List.Elements.{All-head, All-tail}
use Rattle.wire_records.specs.Grammars.{BeginsWith, BeginsWithNone, encode_all}
use Rattle.word_driver.specs.declared.fault.Fault.TheVariants.{Read, Write, Memory, NotFlow, Torn, TooLong, Stopped}
use Rattle.word_driver.specs.Ended.{Ended}
use Rattle.word_driver.specs.Word.{Word, Goes, Passes, Halts}
use Rattle.word_driver.specs.Laws.{IsExact}

module _ {U S B : Type 0} (w : Word U S B) (exact : IsExact w) where
  -- no unit at the beginning of the rest leads on
  abbrev pub IsStill : List ℕ → S → Type 0
  IsStill rest state = (u : U) (more : List ℕ) (t : S) (x : List ℕ) → BeginsWith w.format.units rest u more → w.Steps state u t x → ⊥

  -- The second way continues from where the first one is.
  pub record IsAhead (rest : List ℕ) (state : S) (units all : List U) (x : List ℕ) (left : List ℕ) (end : S) (y : List ℕ) : Type 0 where
    pub more : List U
    pub between : List ℕ
    pub parts : all ≡ units ++ more
    pub onward : Passes w rest state more left end between
    pub text : y ≡ x ++ between

  -- what is passed after the first unit
  following : (bytes : List ℕ) (s next : S) (u : U) (us : List U) (r : List ℕ) (m : S) (rest : List ℕ) → Passes w bytes s (u ∷ us) r m rest → (goes : Goes w s (u ∷ us) m rest)
      → Passes w (encode_all w.format.units us ++ r) goes.0 us r m goes.2
  following bytes s next u us r m rest passes goes = record { whole = refl; each = All-tail w.format.units.IsLawful u us passes.each; goes = goes.4 }

  pub ahead : (units all : List U) (bytes : List ℕ) (s : S) (r left : List ℕ) (m end : S) (x y : List ℕ)
      → Passes w bytes s units r m x → Passes w bytes s all left end y → IsStill left end → IsAhead r m units all x left end y
  ahead [] all bytes s r left m end x y a b still = record {
    more = all;
    between = y;
    parts = refl;
    onward = subst (λ (t : S). Passes w r t all left end y) (sym a.goes.0) (subst (λ (z : List ℕ). Passes w z s all left end y) a.whole b);
    text = ap (λ xs. xs ++ y) (sym a.goes.1);
  }
  ahead (u ∷ units) [] bytes s r left m end x y a b still =
      let prefix : left ≡ w.format.units.encode u ++ (encode_all w.format.units units ++ r) = sym b.whole ∙ a.whole ∙ append_assoc (w.format.units.encode u) (encode_all w.format.units units) r in
      let lawful = All-head w.format.units.IsLawful u units a.each in
      absurd (still u (encode_all w.format.units units ++ r) a.goes.0 a.goes.1 (lawful, prefix) (rw b.goes.0 a.goes.3))
  ahead (u ∷ units) (v ∷ all) bytes s r left m end x y a b still =
      let g = w.format.units in
      let first = All-head g.IsLawful u units a.each in
      let second = All-head g.IsLawful v all b.each in
      let seam : g.encode u ++ (encode_all g units ++ r) ≡ g.encode v ++ (encode_all g all ++ left) =
      sym (append_assoc (g.encode u) (encode_all g units) r) ∙ sym a.whole ∙ b.whole ∙ append_assoc (g.encode v) (encode_all g all) left
      in
      let one = exact.readable.units.one u v (encode_all g units ++ r) (encode_all g all ++ left) first second seam in
      let here : w.Steps s u b.goes.0 b.goes.1 = subst (λ (z : U). w.Steps s z b.goes.0 b.goes.1) (sym one.0) b.goes.3 in
      let same = exact.one_step s u a.goes.0 b.goes.0 a.goes.1 b.goes.1 a.goes.3 here in
      let rest : Passes w (encode_all g units ++ r) a.goes.0 all left end b.goes.2 = record {
        whole = one.1;
        each = All-tail g.IsLawful v all b.each;
        goes = subst (λ (t : S). Goes w t all end b.goes.2) (sym same.0) b.goes.4;
      } in
      let on = ahead units all (encode_all g units ++ r) a.goes.0 r left m end a.goes.2 b.goes.2 (record { whole = refl; each = All-tail g.IsLawful u units a.each; goes = a.goes.4 }) rest still in
      record {
        more = on.more;
        between = on.between;
        parts = ap (λ (z : U). z ∷ all) (sym one.0) ∙ ap (λ xs. u ∷ xs) on.parts;
        onward = on.onward;
        text = b.goes.5 ∙ ap (λ xs. xs ++ b.goes.2) (sym same.1) ∙ ap (λ xs. a.goes.1 ++ xs) on.text ∙ sym (append_assoc a.goes.1 a.goes.2 on.between) ∙ ap (λ xs. xs ++ on.between) (sym a.goes.5);
      }

  -- a way is still if no complete unit is left
  still_none : (rest : List ℕ) (state : S) → BeginsWithNone w.format.units rest → IsStill rest state
  still_none rest state none u more t x begins step = none u more begins.0 begins.1

  still_stop : (rest : List ℕ) (state : S) (v : U) (following : List ℕ) (why : B) (last : List ℕ) → BeginsWith w.format.units rest v following → w.Stops state (Some v) why last → IsStill rest state
  still_stop rest state v following why last prefix stops u more t x begins step =
      let one = exact.readable.units.one u v more following begins.0 prefix.0 (sym begins.1 ∙ prefix.1) in
      exact.steps_or_stops state v t why x last (subst (λ (z : U). w.Steps state z t x) one.0 step) stops

  pub still_where_halts : (More : Type 0) (place : ℕ) (rest : List ℕ) (state : S) (ended : Ended B) (last : List ℕ) → Halts w More place rest state ended last → IsStill rest state
  still_where_halts More place rest state (Ok done) last halts = still_none rest state halts.0.0
  still_where_halts More place rest state (Err (Torn n)) last halts = still_none rest state halts.0.0
  still_where_halts More place rest state (Err TooLong) last halts = still_none rest state halts.0.0
  still_where_halts More place rest state (Err (Stopped why)) last (inl (u, more, prefix, stops)) = still_stop rest state u more why last prefix stops
  still_where_halts More place rest state (Err (Stopped why)) last (inr halts) = still_none rest state halts.0.0
  still_where_halts More place rest state (Err NotFlow) last halts = absurd halts
  still_where_halts More place rest state (Err Read) last halts = absurd halts
  still_where_halts More place rest state (Err Write) last halts = absurd halts
  still_where_halts More place rest state (Err Memory) last halts = absurd halts
