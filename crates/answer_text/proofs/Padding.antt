-- Tickers without their padding.
use Rattle.std.proofs.Common.{◌≡◌, ◌+◌, ◌<◌, ℕ, List, [], ◌∷◌, ◌++◌, length, take, get_or, if◌then◌else◌, refl, sym, ap, ◌∙◌}
use Rattle.std.proofs.lemmas.List.{take_more}
use Rattle.std.proofs.lemmas.Bool.{ne_eqb}
use Rattle.std.specs.Prelude.{slice_get, codes}
use Rattle.std.proofs.Common.{None, inl, inr}
use Rattle.std.proofs.lemmas.List.{get_or_past}
use Rattle.std.proofs.lemmas.Option.{none-some, slice_get_cases}
use Rattle.answer_text.specs.Texts.{before_rest, unpadded, quoted, ticker_text}

-- a space at the end is padding
after_space : (xs : List ℕ) → unpadded (xs ++ 32 ∷ []) ≡ unpadded xs
unfolding unpadded
after_space [] = refl
after_space (x ∷ xs) = ap (before_rest x) (after_space xs)

-- a byte before a list that ends with another isn't padding
before_more : (x : ℕ) (xs : List ℕ) (byte : ℕ) → before_rest x (xs ++ byte ∷ []) ≡ x ∷ (xs ++ byte ∷ [])
before_more x [] byte = refl
before_more x (y ∷ ys) byte = refl

-- another byte at the end isn't padding, and so nothing before it is
after_byte : (xs : List ℕ) (byte : ℕ) → (byte ≡ 32 → ⊥) → unpadded (xs ++ byte ∷ []) ≡ xs ++ byte ∷ []
unfolding unpadded
after_byte [] byte other = ap (λ b. if b then [] else byte ∷ []) (ne_eqb byte 32 other)
after_byte (x ∷ xs) byte other = ap (before_rest x) (after_byte xs byte other) ∙ before_more x xs byte

-- none of a ticker's bytes
pub none_yet : [] ≡ unpadded []
unfolding unpadded
none_yet = refl

-- one more byte that is a space
pub one_more_space : (ticker : List ℕ) (k : ℕ) → k < length ticker → get_or ticker k 0 ≡ 32 → unpadded (take (k + 1) ticker) ≡ unpadded (take k ticker)
one_more_space ticker k inside is = ap unpadded (take_more ticker k 0 inside ∙ ap (λ byte. take k ticker ++ byte ∷ []) is) ∙ after_space (take k ticker)

-- one more byte that is no space
pub one_more_byte : (ticker : List ℕ) (k : ℕ) → k < length ticker → (get_or ticker k 0 ≡ 32 → ⊥) → unpadded (take (k + 1) ticker) ≡ take (k + 1) ticker
one_more_byte ticker k inside other =
    let more = take_more ticker k 0 inside in
    ap unpadded more ∙ after_byte (take k ticker) (get_or ticker k 0) other ∙ sym more

-- an asset that isn't there has no ticker
pub no_ticker : (tickers : List (List ℕ)) (asset : ℕ) → None ≡ slice_get tickers asset → codes "\"\"" ≡ ticker_text tickers asset
unfolding unpadded
no_ticker tickers asset none =
    elim ((slice_get_cases tickers asset).1) [
      | inl found ↦ absurd (none-some found.0 (none ∙ found.2))
      | inr past ↦ sym (ap (λ ticker. quoted (unpadded ticker)) (get_or_past tickers asset [] past.0))
    ]
