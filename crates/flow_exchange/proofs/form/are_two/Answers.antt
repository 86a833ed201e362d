use Rattle.std.proofs.Common.{◌≡◌, ℕ, List, [], ◌∷◌, length, get_or, map, Global, true≢false, sym, ap, ◌∙◌, arith}
use Rattle.std.specs.Prelude.{String, string_bytes}
use Rattle.std.specs.Str.{bytes_eq}
use Rattle.std.proofs.lemmas.Slice.Eq.{bytes_eq-Decides}
use Rattle.flow_exchange.proofs.form.are_two.Goals as goal

-- a list of two arguments
two_words : (words : List (String Global)) (a b : String Global) → length words ≡ 2 → a ≡ get_or words 0 a → b ≡ get_or words 1 b → map string_bytes words ≡ string_bytes a ∷ string_bytes b ∷ []
two_words [] a b len is also = absurd (omega (arith, len))
two_words (x ∷ []) a b len is also = absurd (omega (arith, len))
two_words (x ∷ y ∷ []) a b len is also =
    ap (λ (w : String Global). string_bytes w ∷ string_bytes y ∷ []) (sym is) ∙ ap (λ (w : String Global). string_bytes a ∷ string_bytes w ∷ []) (sym also)
two_words (x ∷ y ∷ z ∷ more) a b len is also = absurd (omega (arith, len))

-- the second of two arguments
second_word : (a b x y : List ℕ) → a ∷ x ∷ [] ≡ b ∷ y ∷ [] → x ≡ y
second_word a b x y e = cc

-- the first of two arguments
first_is : (words : List (String Global)) (a : String Global) (x y : List ℕ) → a ≡ get_or words 0 a → map string_bytes words ≡ x ∷ y ∷ [] → string_bytes a ≡ x
first_is [] a x y is two = absurd cc
first_is (w ∷ more) a x y is two = ap string_bytes is ∙ ap (λ (xs : List (List ℕ)). get_or xs 0 x) two

pub returns-then-eq : goal.returns-then-eq
returns-then-eq c =
    let a = c.index-words-0.result in
    let b = c.index-words-1.result in
    let two = two_words c.args.words.now a b (omega arith) c.index-words-0.is c.index-words-1.is in
    let first = bytes_eq-Decides (string_bytes a) c.args.first.now in
    let second = bytes_eq-Decides (string_bytes b) c.args.second.now in
    let by_first : c.eq.result ≡ bytes_eq (string_bytes a) c.args.first.now = c.eq.ensures ∙ ap (λ xs. bytes_eq xs c.args.first.now) c.as_str.ensures.value in
    let by_second : c.eq-then-eq.result ≡ bytes_eq (string_bytes b) c.args.second.now = c.eq-then-eq.ensures ∙ ap (λ xs. bytes_eq xs c.args.second.now) c.as_str-then-eq.ensures.value in
    let is_first = first.0 (sym by_first ∙ c.if-eq.true) in (
      λ t. two ∙ ap (λ xs. xs ∷ string_bytes b ∷ []) is_first ∙ ap (λ xs. c.args.first.now ∷ xs ∷ []) (second.0 (sym by_second ∙ t)),
      λ m. by_second ∙ second.1 (second_word (string_bytes a) c.args.first.now (string_bytes b) c.args.second.now (sym two ∙ m)),
    )

pub returns : goal.returns
returns c =
    let a = c.index-words-0.result in
    let first = bytes_eq-Decides (string_bytes a) c.args.first.now in
    let by_first : c.eq.result ≡ bytes_eq (string_bytes a) c.args.first.now = c.eq.ensures ∙ ap (λ xs. bytes_eq xs c.args.first.now) c.as_str.ensures.value in (
      λ t. absurd (true≢false (sym t)),
      λ m. absurd (true≢false (sym (first.1 (first_is c.args.words.now a c.args.first.now c.args.second.now c.index-words-0.is m)) ∙ sym by_first ∙ c.if-eq.false)),
    )
