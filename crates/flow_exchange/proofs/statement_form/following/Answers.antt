use Rattle.std.proofs.Common.{◌≡◌, ℕ, List, [], ◌∷◌, Bool, true, false, length, get_or, map, Global, true≢false, refl, sym, ap, ◌∙◌, arith}
use Rattle.std.specs.Prelude.{not}
use Rattle.std.specs.Prelude.{String, string_bytes}
use Rattle.std.specs.Str.{bytes_eq}
use Rattle.std.proofs.lemmas.Slice.Eq.{bytes_eq-Decides}
use Rattle.flow_exchange.specs.Private.{AreTwo}
use Rattle.flow_exchange.proofs.statement_form.following.Goals as goal

-- a list of two arguments
two_words : (words : List (String Global)) (a b : String Global) → length words ≡ 2 → a ≡ get_or words 0 a → b ≡ get_or words 1 b → map string_bytes words ≡ string_bytes a ∷ string_bytes b ∷ []
two_words [] a b len is also = absurd (omega (arith, len))
two_words (x ∷ []) a b len is also = absurd (omega (arith, len))
two_words (x ∷ y ∷ []) a b len is also =
    ap (λ (w : String Global). string_bytes w ∷ string_bytes y ∷ []) (sym is) ∙ ap (λ (w : String Global). string_bytes a ∷ string_bytes w ∷ []) (sym also)
two_words (x ∷ y ∷ z ∷ more) a b len is also = absurd (omega (arith, len))

-- the first of two arguments
first_is : (words : List (String Global)) (a : String Global) (first : List ℕ) → a ≡ get_or words 0 a → AreTwo (map string_bytes words) first → string_bytes a ≡ first
first_is [] a first is two = absurd (let e = two.1 in cc)
first_is (w ∷ more) a first is two = ap string_bytes is ∙ ap (λ (xs : List (List ℕ)). get_or xs 0 first) two.1

-- what isn't unequal is equal
not_other : (b : Bool) → not b ≡ false → b ≡ true
not_other true e = refl
not_other false e = absurd cc

pub returns-then-ne-clause-none : goal.returns-then-ne-clause-none
returns-then-ne-clause-none c = λ two.
    let a = c.index-words-0.result in
    let decides = bytes_eq-Decides (string_bytes a) c.args.first.now in
    let same : bytes_eq (string_bytes a) c.args.first.now ≡ true = decides.1 (first_is c.args.words.now a c.args.first.now c.index-words-0.is two) in
    let result : c.ne.result ≡ not (bytes_eq (string_bytes a) c.args.first.now) = c.ne.ensures ∙ ap (λ xs. not (bytes_eq xs c.args.first.now)) c.as_str.ensures.value in
    true≢false (sym c.if-ne.true ∙ result ∙ ap not same)

pub returns-clause-two : goal.returns-clause-two
returns-clause-two c =
    let a = c.index-words-0.result in
    let decides = bytes_eq-Decides (string_bytes a) c.args.first.now in
    let result : c.ne.result ≡ not (bytes_eq (string_bytes a) c.args.first.now) = c.ne.ensures ∙ ap (λ xs. not (bytes_eq xs c.args.first.now)) c.as_str.ensures.value in
    let first = decides.0 (not_other (bytes_eq (string_bytes a) c.args.first.now) (sym result ∙ c.if-ne.false)) in
    let words = two_words c.args.words.now a c.index-words-1.result (omega arith) c.index-words-0.is c.index-words-1.is in
    words ∙ ap (λ xs. xs ∷ string_bytes c.index-words-1.result ∷ []) first ∙ ap (λ xs. c.args.first.now ∷ xs ∷ []) (sym c.as_str-2.ensures.value)
