-- What an output gained: nothing, one text, a text that was cut short, and more after what it gained before.
use Rattle.std.proofs.Common.{◌≡◌, ℕ, List, [], ◌∷◌, ◌++◌, take, map, flat_map, refl, sym, ap, subst, ◌∙◌, arith, rules, append_assoc}
use Rattle.std.specs.Prelude.{⊤}
use Rattle.std.proofs.lemmas.List.{append-nil}
use Rattle.std.proofs.lemmas.Grind.{flat_map-append}
use Rattle.flow_io.specs.Streams.{Grows, GrowsByPrefix}
use Rattle.flow_io.proofs.Growth.{Grows-nothing, Grows-more}
use Rattle.journal_keeping.specs.Outputs.{Output, Gains}

abbrev Texts : Type 0
Texts = List (List ℕ)

abbrev pub joined : Texts → List ℕ
joined texts = flat_map (λ text. text) texts

take_nothing : (n : ℕ) → take {A = ℕ} n [] ≡ []
take_nothing n = search rules

pub gains_none : (Cut : Type 0) (out : Output) → Gains Cut out out []
gains_none Cut out = record {
  called = Grows-nothing out.calls;
  whole = [];
  last = [];
  parts = refl;
  one = omega arith;
  none = λ _. refl;
  count = 0;
  written = Grows-nothing out.held;
}

pub gains_one : (Cut : Type 0) (out later : Output) (text : List ℕ) → Grows out.calls later.calls (text ∷ []) → Grows out.held later.held text → Gains Cut out later (text ∷ [])
gains_one Cut out later text called grows = record {
  called = called;
  whole = text ∷ [];
  last = [];
  parts = refl;
  one = omega arith;
  none = λ _. refl;
  count = 0;
  written = subst (λ (l : List ℕ). Grows out.held later.held l) (sym (append-nil (text ++ []) ∙ append-nil text)) grows;
}

pub gains_cut : (out later : Output) (text : List ℕ) → Grows out.calls later.calls (text ∷ []) → GrowsByPrefix out.held later.held text → Gains ⊤ out later (text ∷ [])
gains_cut out later text called cut = record {
  called = called;
  whole = [];
  last = text ∷ [];
  parts = refl;
  one = omega arith;
  none = λ not. absurd (not tt);
  count = cut.0;
  written = subst (λ (l : List ℕ). Grows out.held later.held (take cut.0 l)) (sym (append-nil text)) cut.2;
}

pub gains_wider : (One Other : Type 0) (out later : Output) (texts : Texts) → (One → Other) → Gains One out later texts → Gains Other out later texts
gains_wider One Other out later texts to gains = record {
  called = gains.called;
  whole = gains.whole;
  last = gains.last;
  parts = gains.parts;
  one = gains.one;
  none = λ not. gains.none (λ one. not (to one));
  count = gains.count;
  written = gains.written;
}

-- all texts are there, if none was cut short
pub whole_text : (out later : Output) (texts : Texts) → Gains ⊥ out later texts → Grows out.held later.held (flat_map (λ text. text) texts)
whole_text out later texts gains =
    let last : gains.last ≡ [] = gains.none (λ no. no) in
    let whole : texts ≡ gains.whole = gains.parts ∙ ap (λ (l : Texts). gains.whole ++ l) last ∙ append-nil gains.whole in
    subst (λ (l : List ℕ). Grows out.held later.held l)
    (ap (λ (l : Texts). flat_map (λ text. text) gains.whole ++ take gains.count (flat_map (λ text. text) l)) last ∙ ap (λ (l : List ℕ). flat_map (λ text. text) gains.whole ++ l) (take_nothing gains.count)
    ∙ append-nil (flat_map (λ text. text) gains.whole) ∙ ap (λ (l : Texts). flat_map (λ text. text) l) (sym whole)) gains.written

pub gains_more : (Cut : Type 0) (first second third : Output) (texts more : Texts) → Gains ⊥ first second texts → Gains Cut second third more → Gains Cut first third (texts ++ more)
gains_more Cut first second third texts more a b = record {
  called = Grows-more first.calls second.calls third.calls texts more a.called b.called;
  whole = texts ++ b.whole;
  last = b.last;
  parts = ap (λ (l : Texts). texts ++ l) b.parts ∙ sym (append_assoc texts b.whole b.last);
  one = b.one;
  none = b.none;
  count = b.count;
  written = subst (λ (l : List ℕ). Grows first.held third.held l)
      (sym (append_assoc (flat_map (λ text. text) texts) (flat_map (λ text. text) b.whole) (take b.count (flat_map (λ text. text) b.last))) ∙ ap (λ (l : List ℕ). l ++ take b.count (flat_map (λ text. text) b.last)) (sym (flat_map-append (λ (text : List ℕ). text) texts b.whole)))
      (Grows-more first.held second.held third.held (flat_map (λ text. text) texts) (flat_map (λ text. text) b.whole ++ take b.count (flat_map (λ text. text) b.last)) (whole_text first second texts a) b.written);
}

-- the texts of values, one after the other
pub flat_texts : {A : Type 0} (text_of : A → List ℕ) (values : List A) → joined (map text_of values) ≡ flat_map text_of values
flat_texts text_of [] = refl
flat_texts text_of (value ∷ values) = ap (λ (l : List ℕ). text_of value ++ l) (flat_texts text_of values)

-- an output gained the texts of these values, if none was cut short
pub gained_whole : {A : Type 0} (Cut : Type 0) (text_of : A → List ℕ) (out later : Output) (values : List A) → ¬ Cut → Gains Cut out later (map text_of values) → Grows out.held later.held (flat_map text_of values)
gained_whole Cut text_of out later values not gains =
    subst (λ (l : List ℕ). Grows out.held later.held l) (flat_texts text_of values) (whole_text out later (map text_of values) (gains_wider Cut ⊥ out later (map text_of values) not gains))
