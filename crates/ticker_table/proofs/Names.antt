-- Where the name of a ticker ends.
use Rattle.std.proofs.Common.{◌≡◌, ℕ, ◌+◌, ◌-◌, ◌<◌, ◌≤◌, List, ◌++◌, length, take, drop, get_or, replicate, All, ⊎_elim, refl, sym, ap, ◌∙◌, arith}
use Rattle.std.proofs.lemmas.Bool.{cases_lt}
use Rattle.std.proofs.lemmas.List.{length-take-le, length-append, length-replicate, get_or_append_left, get_or-append_right, get_or-replicate, get_or-take, get_or-drop, length-drop, take-append-drop, take_at, same_lists}
use Rattle.ticker_table.specs.Tickers.{IsNameCharacter, IsTicker}

-- a space is no character of a name
space_is_none : IsNameCharacter 32 → ⊥
space_is_none h = omega arith

all_same : (xs : List ℕ) (x : ℕ) → All (λ y. y ≡ x) xs → xs ≡ replicate (length xs) x
all_same xs x same =
    same_lists xs (replicate (length xs) x) (sym (length-replicate (length xs) x)) (λ k d l. same k d l ∙ sym (get_or-replicate (length xs) k x d l))

-- what the code tests is enough for a valid ticker
pub IsTicker-from_parts : (bytes : List ℕ) (name : ℕ) → length bytes ≡ 8 → 0 < name → name ≤ 8 → All IsNameCharacter (take name bytes) → All (λ byte. byte ≡ 32) (drop name bytes) → IsTicker bytes
IsTicker-from_parts bytes name whole named within characters spaces = record {
  name = take name bytes;
  spaces = length (drop name bytes);
  encoded = sym (take-append-drop name bytes) ∙ ap (λ rest. take name bytes ++ rest) (all_same (drop name bytes) 32 spaces);
  named = omega (arith, length-take-le name bytes (omega arith));
  characters = characters;
  whole = whole;
}

module _ (bytes : List ℕ) (ticker : IsTicker bytes) where
  parts_fill : length ticker.name + ticker.spaces ≡ 8
  parts_fill =
      omega (arith, ap length ticker.encoded, length-append ticker.name (replicate ticker.spaces 32), length-replicate {A = ℕ} ticker.spaces 32, ticker.whole)

  space_at : (k d : ℕ) → length ticker.name ≤ k → k < 8 → get_or bytes k d ≡ 32
  space_at k d from to =
      ap (λ list. get_or list k d) ticker.encoded ∙ get_or-append_right ticker.name (replicate ticker.spaces 32) (length ticker.name) k d refl from
      ∙ get_or-replicate ticker.spaces (k - length ticker.name) 32 d (omega (arith, parts_fill))

  character_at : (k : ℕ) → k < length ticker.name → IsNameCharacter (get_or bytes k 0)
  character_at k below =
      let here = ap (λ list. get_or list k 0) ticker.encoded ∙ get_or_append_left ticker.name (replicate ticker.spaces 32) 0 k below in
      rw here (ticker.characters k 0 below)

  -- if a character is at a place, the name reaches beyond it
  within_name : (k : ℕ) → k < 8 → IsNameCharacter (get_or bytes k 0) → k < length ticker.name
  within_name k below character =
      ⊎_elim
      (λ (inside : k < length ticker.name). inside)
      (λ (outside : length ticker.name ≤ k). absurd (space_is_none (rw (space_at k 0 outside below) at character)))
      (cases_lt k (length ticker.name))

module _ (bytes : List ℕ) (a b : IsTicker bytes) where
  not_longer : length a.name < length b.name → ⊥
  not_longer longer =
      let inside = within_name bytes a (length a.name) (omega (arith, parts_fill bytes b)) (character_at bytes b (length a.name) longer) in
      omega arith

-- a ticker has one name
pub one_name : (bytes : List ℕ) (a b : IsTicker bytes) → a.name ≡ b.name
one_name bytes a b =
    let same : length a.name ≡ length b.name = omega (arith, not_longer bytes a b, not_longer bytes b a) in
    sym (take_at a.name (replicate a.spaces 32) (length a.name) refl) ∙ ap (take (length a.name)) (sym a.encoded ∙ b.encoded)
    ∙ take_at b.name (replicate b.spaces 32) (length a.name) (sym same)

module _ (bytes : List ℕ) (name : ℕ) (within : name ≤ 8) (characters : All IsNameCharacter (take name bytes)) (end : name < 8 → IsNameCharacter (get_or bytes name 0) → ⊥) (ticker : IsTicker bytes) where
  -- the name that the code found isn't longer
  found_not_longer : length ticker.name < name → ⊥
  found_not_longer longer =
      let read = characters (length ticker.name) 0 (omega (arith, length-take-le name bytes (omega (arith, ticker.whole)))) in
      let character = rw (get_or-take name bytes (length ticker.name) 0 longer) at read in
      let inside = within_name bytes ticker (length ticker.name) (omega arith) character in
      omega arith

  -- the name that the code found isn't shorter
  found_not_shorter : name < length ticker.name → ⊥
  found_not_shorter shorter =
      end (omega (arith, parts_fill bytes ticker)) (character_at bytes ticker name shorter)

  found_whole : length ticker.name ≡ name
  found_whole = omega (arith, found_not_longer, found_not_shorter)

  -- what the code tests holds for each ticker
  pub parts_from_IsTicker : (0 < name) × All (λ byte. byte ≡ 32) (drop name bytes)
  parts_from_IsTicker = (omega (arith, found_whole, ticker.named), rest_is_spaces)
    where
      rest_is_spaces : All (λ byte. byte ≡ 32) (drop name bytes)
      rest_is_spaces k d l =
          get_or-drop name bytes k d ∙ space_at bytes ticker (name + k) d (omega (arith, found_whole)) (omega (arith, length-drop name bytes, ticker.whole))
