-- Stored entries that were put together in a buffer.
use Rattle.std.proofs.Common.{◌≡◌, ◌≢◌, ◌↔◌, ◌==◌, ℕ, List, [], ◌∷◌, ◌++◌, Bool, IsTrue, length, take, length-append, length-take, append_assoc, refl, sym, ap, ◌∙◌, arith}
use Rattle.std.proofs.Math.Seq.{take-append_seam}
use Rattle.std.proofs.lemmas.Bool.{eqb-true}
use Rattle.std.specs.List.{flat_map}
use Rattle.journal_disk.specs.Pairs.{RecordPair, pair_bytes}
use Rattle.journal_disk.specs.Entries.{framed, entry}
use Rattle.journal_disk.specs.Groups.{stored_in, EndsUnset}
use Rattle.journal_disk.proofs.Entries.{one_stored}

-- an empty buffer has none
pub none_stored : stored_in [] ≡ []
unfolding stored_in
none_stored = refl

-- a buffer has as many bytes as are stored of its entries
pub length-stored_in : (buffer : List ℕ) → length (stored_in buffer) ≡ length buffer
unfolding stored_in
length-stored_in buffer = omega (arith, length-take (length buffer) (1 ∷ buffer))

-- what is stored is nothing where the buffer is empty
pub empty_is : (buffer stored : List ℕ) (empty : Bool) → stored_in buffer ≡ stored → empty ≡ (length buffer == 0) → IsTrue empty ↔ (stored ≡ [])
empty_is [] stored empty view is = (λ _. sym view ∙ none_stored, λ _. is)
empty_is (b ∷ buffer) stored empty view is = (
  λ yes. absurd (omega (arith, eqb-true (length (b ∷ buffer)) 0 (sym is ∙ yes))),
  λ none. absurd (omega (arith, length-stored_in (b ∷ buffer), ap length view, ap length none)),
)

-- the bytes after the first commit byte
pub after_first : (buffer stored bytes : List ℕ) → stored_in buffer ≡ stored → EndsUnset buffer → bytes ≡ buffer → stored ≢ [] → 1 ∷ bytes ≡ stored ++ 0 ∷ []
after_first [] stored bytes view ends same some = absurd (some (sym view ∙ none_stored))
after_first (b ∷ buffer) stored bytes view ends same some = ap (λ (l : List ℕ). 1 ∷ l) same ∙ ends (omega arith) ∙ ap (λ (l : List ℕ). l ++ 0 ∷ []) view

module _ (buffer stored : List ℕ) (is : 1 ∷ buffer ≡ stored ++ 0 ∷ []) where
  -- what is stored, if an unset commit byte ends the buffer
  pub stored_is : stored_in buffer ≡ stored
  unfolding stored_in
  stored_is =
      ap (take (length buffer)) is
      ∙ ap (λ (n : ℕ). take n (stored ++ 0 ∷ [])) (omega (arith, ap length is, length-append stored (0 ∷ [])))
      ∙ take-append_seam stored (0 ∷ [])

  pub ends_unset : EndsUnset buffer
  ends_unset some = is ∙ ap (λ (l : List ℕ). l ++ 0 ∷ []) (sym stored_is)

-- the last commit byte is set
pub last_set : (buffer rest set : List ℕ) (last : ℕ) → buffer ≡ rest ++ last ∷ [] → set ≡ rest ++ 1 ∷ [] → 1 ∷ set ≡ stored_in buffer ++ 1 ∷ []
unfolding stored_in
last_set buffer rest set last is marked =
    let counts : length buffer ≡ length (1 ∷ rest) = omega (arith, ap length is, length-append rest (last ∷ [])) in
    let stored : take (length buffer) (1 ∷ buffer) ≡ 1 ∷ rest =
    ap (λ (l : List ℕ). take (length buffer) (1 ∷ l)) is
    ∙ ap (λ (n : ℕ). take n ((1 ∷ rest) ++ last ∷ [])) counts
    ∙ take-append_seam (1 ∷ rest) (last ∷ []) in
    ap (λ (l : List ℕ). 1 ∷ l) marked ∙ ap (λ (l : List ℕ). l ++ 1 ∷ []) (sym stored)

-- without entries no commit byte is set
pub none_set : (buffer set : List ℕ) → length buffer ≡ 0 → length set ≡ 0 → 1 ∷ set ≡ stored_in buffer ++ 1 ∷ []
none_set [] [] none same = ap (λ (l : List ℕ). l ++ 1 ∷ []) (sym none_stored)
none_set (b ∷ buffer) set none same = absurd (omega (arith, none))
none_set [] (s ∷ set) none same = absurd (omega (arith, same))

-- what is added after the last commit byte was set
pub added_after : (held set added more buffer : List ℕ) → 1 ∷ set ≡ held ++ 1 ∷ [] → 1 ∷ added ≡ more ++ 0 ∷ [] → buffer ≡ set ++ added → 1 ∷ buffer ≡ (held ++ more) ++ 0 ∷ []
added_after held set added more buffer marked is same =
    ap (λ (l : List ℕ). 1 ∷ l) same
    ∙ ap (λ (l : List ℕ). l ++ added) marked
    ∙ append_assoc held (1 ∷ []) added
    ∙ ap (λ (l : List ℕ). held ++ l) is
    ∙ sym (append_assoc held more (0 ∷ []))

-- the parts of what is stored of an entry
pub parts_of : (a b c d : List ℕ) → ((a ++ b) ++ c) ++ d ≡ a ++ ((b ++ c) ++ d)
parts_of a b c d = append_assoc (a ++ b) c d ∙ append_assoc a b (c ++ d) ∙ ap (λ (l : List ℕ). a ++ l) (sym (append_assoc b c d))

-- what is written of one entry
pub of_one : (pair bytes : List ℕ) (last : RecordPair) → bytes ≡ framed pair ++ 0 ∷ [] → pair ≡ pair_bytes last → 1 ∷ bytes ≡ flat_map entry (last ∷ []) ++ 0 ∷ []
of_one pair bytes last filled encoded =
    ap (λ (l : List ℕ). 1 ∷ l) (filled ∙ ap (λ (l : List ℕ). framed l ++ 0 ∷ []) encoded)
    ∙ ap (λ (l : List ℕ). l ++ 0 ∷ []) (sym (one_stored last))
