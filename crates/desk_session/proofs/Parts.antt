-- The texts that are to be written, as parts of one.
use Rattle.std.proofs.Common.{◌≡◌, ℕ, zero, suc, ◌-◌, ◌<◌, ◌≤◌, get_or, List, [], ◌∷◌, ◌++◌, length, take, drop, refl, ap, ◌∙◌, arith}
use Rattle.std.proofs.lemmas.List.{take-append-le, drop-append-le, take_all, length-append, length-drop}
use Rattle.std.proofs.Math.Seq.{drop-append_seam}
use Rattle.desk_session.specs.Private.{segments, EndAt}

-- there is one part for each end
pub parts_count : (from : ℕ) (ends text : List ℕ) → length (segments from ends text) ≡ length ends
parts_count from [] text = refl
parts_count from (end ∷ ends) text = let more = parts_count end ends text in omega (arith, more)

-- the part at a place, which begins at the end of the one before it
pub part_at : (from : ℕ) (ends text : List ℕ) (place d : ℕ) (none : List ℕ) → place < length ends
    → get_or (segments from ends text) place none ≡ take (get_or ends place d - get_or (from ∷ ends) place d) (drop (get_or (from ∷ ends) place d) text)
part_at from [] text place d none inside = absurd (omega (arith, inside))
part_at from (end ∷ ends) text zero d none inside = refl
part_at from (end ∷ ends) text (suc place) d none inside = part_at end ends text place d none (omega (arith, inside))

-- a part begins before it ends, and ends within the text
pub part_within : (from : ℕ) (ends text : List ℕ) (place d : ℕ) → EndAt from ends text → place < length ends
    → (get_or (from ∷ ends) place d ≤ get_or ends place d) × (get_or ends place d ≤ length text)
part_within from [] text place d is inside = absurd (omega (arith, inside))
part_within from (end ∷ ends) text zero d is inside = (is.0, is.1)
part_within from (end ∷ ends) text (suc place) d is inside = part_within end ends text place d is.2 (omega (arith, inside))

-- a part after the first begins at the end before it
pub begins_after : (ends : List ℕ) (place d : ℕ) → (place ≡ 0 → ⊥) → get_or (0 ∷ ends) place d ≡ get_or ends (place - 1) d
begins_after ends zero d some = absurd (some refl)
begins_after ends (suc place) d some = let same : place ≡ suc place - 1 = omega arith in ap (λ k. get_or ends k d) same

-- the part of a longer text is the same
same_part : (from end : ℕ) (text more : List ℕ) → from ≤ end → end ≤ length text → take (end - from) (drop from (text ++ more)) ≡ take (end - from) (drop from text)
same_part from end text more before within =
    ap (take (end - from)) (drop-append-le from text more (omega (arith, before, within)))
    ∙ take-append-le (end - from) (drop from text) more (omega (arith, before, within, length-drop from text))

-- the part that is after a text
last_part : (from : ℕ) (text more : List ℕ) → from ≡ length text → take (length (text ++ more) - from) (drop from (text ++ more)) ≡ more
last_part from text more is =
    ap (take (length (text ++ more) - from)) (ap (λ n. drop n (text ++ more)) is ∙ drop-append_seam text more)
    ∙ take_all (length (text ++ more) - from) more (omega (arith, is, length-append text more))

-- with one more text at the end, the others are as before
pub one_more_part : (from : ℕ) (ends text more : List ℕ) → EndAt from ends text
    → segments from (ends ++ length (text ++ more) ∷ []) (text ++ more) ≡ segments from ends text ++ more ∷ []
one_more_part from [] text more is = ap (λ x. x ∷ []) (last_part from text more is)
one_more_part from (end ∷ ends) text more is =
    ap (λ x. x ∷ segments end (ends ++ length (text ++ more) ∷ []) (text ++ more)) (same_part from end text more is.0 is.1)
    ∙ ap (λ xs. take (end - from) (drop from text) ∷ xs) (one_more_part end ends text more is.2)

pub one_more_end : (from : ℕ) (ends text more : List ℕ) → EndAt from ends text → EndAt from (ends ++ length (text ++ more) ∷ []) (text ++ more)
one_more_end from [] text more is = (omega (arith, is, length-append text more), omega arith, refl)
one_more_end from (end ∷ ends) text more is = (is.0, omega (arith, is.1, length-append text more), one_more_end end ends text more is.2)
