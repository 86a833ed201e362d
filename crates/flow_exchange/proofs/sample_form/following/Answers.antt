use Rattle.std.proofs.Common.{◌≡◌, ℕ, List, [], ◌∷◌, Bool, true, false, length, get_or, map, Global, true≢false, refl, sym, ap, ◌∙◌, arith}
use Rattle.std.specs.Prelude.{not}
use Rattle.std.specs.Prelude.{String, string_bytes}
use Rattle.std.specs.Str.{bytes_eq}
use Rattle.std.proofs.lemmas.Slice.Eq.{bytes_eq-Decides}
use Rattle.flow_exchange.specs.Private.{AreThree}
use Rattle.flow_exchange.proofs.sample_form.following.Goals as goal

-- a list of three arguments
three_words : (words : List (String Global)) (a b d : String Global) → length words ≡ 3 → a ≡ get_or words 0 a → b ≡ get_or words 1 b → d ≡ get_or words 2 d → map string_bytes words ≡ string_bytes a ∷ string_bytes b ∷ string_bytes d ∷ []
three_words [] a b d len is also last = absurd (omega (arith, len))
three_words (x ∷ []) a b d len is also last = absurd (omega (arith, len))
three_words (x ∷ y ∷ []) a b d len is also last = absurd (omega (arith, len))
three_words (x ∷ y ∷ z ∷ []) a b d len is also last =
    ap (λ (w : String Global). string_bytes w ∷ string_bytes y ∷ string_bytes z ∷ []) (sym is) ∙ ap (λ (w : String Global). string_bytes a ∷ string_bytes w ∷ string_bytes z ∷ []) (sym also)
    ∙ ap (λ (w : String Global). string_bytes a ∷ string_bytes b ∷ string_bytes w ∷ []) (sym last)
three_words (x ∷ y ∷ z ∷ v ∷ more) a b d len is also last = absurd (omega (arith, len))

-- the first of three arguments
first_is : (words : List (String Global)) (a : String Global) (first : List ℕ) → a ≡ get_or words 0 a → AreThree (map string_bytes words) first → string_bytes a ≡ first
first_is [] a first is three = absurd (let e = three.2 in cc)
first_is (w ∷ more) a first is three = ap string_bytes is ∙ ap (λ (xs : List (List ℕ)). get_or xs 0 first) three.2

-- what isn't unequal is equal
not_other : (b : Bool) → not b ≡ false → b ≡ true
not_other true e = refl
not_other false e = absurd cc

pub returns-then-ne-clause-none : goal.returns-then-ne-clause-none
returns-then-ne-clause-none c = λ three.
    let a = c.index-words-0.result in
    let decides = bytes_eq-Decides (string_bytes a) c.args.first.now in
    let same : bytes_eq (string_bytes a) c.args.first.now ≡ true = decides.1 (first_is c.args.words.now a c.args.first.now c.index-words-0.is three) in
    let result : c.ne.result ≡ not (bytes_eq (string_bytes a) c.args.first.now) = c.ne.ensures ∙ ap (λ xs. not (bytes_eq xs c.args.first.now)) c.as_str.ensures.value in
    true≢false (sym c.if-ne.true ∙ result ∙ ap not same)

pub returns-clause-three : goal.returns-clause-three
returns-clause-three c =
    let a = c.index-words-0.result in
    let decides = bytes_eq-Decides (string_bytes a) c.args.first.now in
    let result : c.ne.result ≡ not (bytes_eq (string_bytes a) c.args.first.now) = c.ne.ensures ∙ ap (λ xs. not (bytes_eq xs c.args.first.now)) c.as_str.ensures.value in
    let first = decides.0 (not_other (bytes_eq (string_bytes a) c.args.first.now) (sym result ∙ c.if-ne.false)) in
    let words = three_words c.args.words.now a c.index-words-1.result c.index-words-2.result (omega arith) c.index-words-0.is c.index-words-1.is c.index-words-2.is in
    words ∙ ap (λ xs. xs ∷ string_bytes c.index-words-1.result ∷ string_bytes c.index-words-2.result ∷ []) first ∙ ap (λ xs. c.args.first.now ∷ xs ∷ string_bytes c.index-words-2.result ∷ []) (sym c.as_str-2.ensures.value)
    ∙ ap (λ xs. c.args.first.now ∷ c.as_str-2.result.now ∷ xs ∷ []) (sym c.as_str-3.ensures.value)
