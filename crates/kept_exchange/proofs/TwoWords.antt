-- Words that are two.
use Rattle.std.proofs.Common.{◌≡◌, ℕ, List, [], ◌∷◌, length, get_or, map, Global, sym, ap, ◌∙◌, arith}
use Rattle.std.specs.Prelude.{String, string_bytes}

-- a list of two words
pub two_words : (words : List (String Global)) (a b : String Global) → length words ≡ 2 → a ≡ get_or words 0 a → b ≡ get_or words 1 b → map string_bytes words ≡ string_bytes a ∷ string_bytes b ∷ []
two_words [] a b len is also = absurd (omega (arith, len))
two_words (x ∷ []) a b len is also = absurd (omega (arith, len))
two_words (x ∷ y ∷ []) a b len is also =
    ap (λ (w : String Global). string_bytes w ∷ string_bytes y ∷ []) (sym is) ∙ ap (λ (w : String Global). string_bytes a ∷ string_bytes w ∷ []) (sym also)
two_words (x ∷ y ∷ z ∷ more) a b len is also = absurd (omega (arith, len))

-- the first of two words that are so
pub first_is : (words : List (String Global)) (a : String Global) (word file : List ℕ) → a ≡ get_or words 0 a → map string_bytes words ≡ word ∷ file ∷ [] → string_bytes a ≡ word
first_is (x ∷ y ∷ []) a word file is are = ap string_bytes is ∙ cc are
first_is [] a word file is are = absurd (cc are)
first_is (x ∷ []) a word file is are = absurd (cc are)
first_is (x ∷ y ∷ z ∷ zs) a word file is are = absurd (cc are)
