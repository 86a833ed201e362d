-- The name of a ticker, byte by byte.
use Rattle.std.proofs.Common.{◌≡◌, ◌+◌, ◌<◌, ℕ, List, [], ◌∷◌, ◌++◌, length, take, drop, get_or, None, inl, inr, false, if◌then◌else◌, ◌==◌, sym, ap, eq-eqb, ◌∙◌}
use Rattle.std.proofs.lemmas.List.{append_assoc, take_more, drop_more, append-nil, get_or_past}
use Rattle.std.specs.Prelude.{slice_get}
use Rattle.std.proofs.lemmas.Option.{none-some, slice_get_cases}
use Rattle.std.proofs.lemmas.Bool.{ne_eqb}
use Rattle.std.proofs.Math.Seq.{drop-length}
use Rattle.pair_text.specs.Texts.{name_of, asset_name}

-- bytes whose name is that of so many first bytes followed by the name of the rest
abbrev pub HasPassed : List ℕ → ℕ → Type 0
HasPassed ticker k = name_of ticker ≡ take k ticker ++ name_of (drop k ticker)

-- a byte that isn't a space
unequal : (byte : ℕ) → (byte ≡ 32 → ⊥) → (byte == 32) ≡ false
unequal byte other = ne_eqb byte 32 other

-- after one more byte that is no space
pub one_more : (ticker : List ℕ) (k : ℕ) → k < length ticker → (get_or ticker k 0 ≡ 32 → ⊥) → HasPassed ticker k → HasPassed ticker (k + 1)
unfolding name_of
one_more ticker k inside other passed =
    let more : name_of (drop k ticker) ≡ get_or ticker k 0 ∷ name_of (drop (k + 1) ticker) =
    ap name_of (drop_more ticker k 0 inside) ∙ ap (λ b. if b then [] else get_or ticker k 0 ∷ name_of (drop (k + 1) ticker)) (unequal (get_or ticker k 0) other) in
    passed ∙ ap (λ x. take k ticker ++ x) more ∙ sym (append_assoc (take k ticker) (get_or ticker k 0 ∷ []) (name_of (drop (k + 1) ticker))) ∙ ap (λ x. x ++ name_of (drop (k + 1) ticker)) (sym (take_more ticker k 0 inside))

-- at the first space
pub ended : (ticker : List ℕ) (k : ℕ) → k < length ticker → get_or ticker k 0 ≡ 32 → HasPassed ticker k → take k ticker ≡ name_of ticker
unfolding name_of
ended ticker k inside space passed =
    let none : name_of (drop k ticker) ≡ [] =
    ap name_of (drop_more ticker k 0 inside) ∙ ap (λ b. if b then [] else get_or ticker k 0 ∷ name_of (drop (k + 1) ticker)) (eq-eqb (get_or ticker k 0) 32 space) in
    sym (passed ∙ ap (λ x. take k ticker ++ x) none ∙ append-nil (take k ticker))

-- a ticker without a space is its own name
pub whole : (ticker : List ℕ) → HasPassed ticker (length ticker) → take (length ticker) ticker ≡ name_of ticker
unfolding name_of
whole ticker passed =
    sym (passed ∙ ap (λ x. take (length ticker) ticker ++ name_of x) (drop-length ticker) ∙ append-nil (take (length ticker) ticker))

-- the name of an asset that isn't there
pub no_name : (tickers : List (List ℕ)) (asset : ℕ) → None ≡ slice_get tickers asset → asset_name tickers asset ≡ []
unfolding name_of
no_name tickers asset none =
    elim ((slice_get_cases tickers asset).1) [
      | inl found ↦ absurd (none-some found.0 (none ∙ found.2))
      | inr past ↦ ap name_of (get_or_past tickers asset [] past.0)
    ]
