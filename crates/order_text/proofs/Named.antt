-- What is found at keys.
use Rattle.std.proofs.Common.{◌≡◌, ℕ, ◌<◌, ◌≤◌, List, length, get_or, Option, Some, None, is_some, IfSome, position, bytes_eq, true≢false, ⊎_elim, refl, sym, ap, ◌∙◌, arith}
use Rattle.std.specs.List.{position_or_len}
use Rattle.std.proofs.lemmas.Bool.{cases_lt, lt-ltb}
use Rattle.std.proofs.lemmas.List.Quantifiers.{position-Some}
use Rattle.std.proofs.lemmas.List.Sums.{fails_before_first}
use Rattle.std.proofs.lemmas.Option.{slice_get-get_or, slice_get_within, get_or_from_slice_get}
use Rattle.std.proofs.lemmas.Slice.Eq.{bytes_eq-Decides}
use Rattle.ticker_table.specs.Tickers.{HasNumber}
use Rattle.std.specs.Prelude.{String, IsTrue, ◌↔◌, ◌==◌, unwrap_or}
use Rattle.std.specs.declared.alloc.Global.{Global}
use Rattle.std.proofs.lemmas.Bool.Decides.{Decides-eqb}
use Rattle.serde_json.specs.Data.{Data}
use Rattle.serde_json.specs.Find.{as_object}
use Rattle.serde_json.specs.View.{members_view}
use Rattle.serde_json.specs.declared.value.Value.{Value}
use Rattle.serde_json.proofs.Views.{members_len-members_view}
use Rattle.order_text.specs.Lines.{padded, asset_named, HasKeys}

module _ (tickers : List (List ℕ)) (ticker : List ℕ) where
  number_at_position : (number : ℕ) → position (bytes_eq ticker) tickers ≡ Some number → HasNumber tickers number ticker
  number_at_position number found =
      let p = position-Some (bytes_eq ticker) tickers number ticker found in
      let equal = (bytes_eq-Decides ticker (get_or tickers number ticker)).0 p.1 in
      slice_get-get_or tickers number ticker p.0 ∙ ap Some (sym equal)

  no_number : (number : ℕ) → length tickers ≤ position_or_len (bytes_eq ticker) tickers → HasNumber tickers number ticker → ⊥
  no_number number past at =
      let within = slice_get_within tickers number ticker at in
      let fails = fails_before_first (bytes_eq ticker) tickers number ticker (omega (arith, within, past)) in
      let same = get_or_from_slice_get tickers number ticker ticker at in
      true≢false (sym ((bytes_eq-Decides ticker (get_or tickers number ticker)).1 (sym same)) ∙ fails)

  -- what finds exactly the numbers of a ticker finds its place
  pub found_is_position : (found : Option ℕ) → IfSome found (λ number. HasNumber tickers number ticker)
      → ((number : ℕ) → HasNumber tickers number ticker → found ≡ Some number) → found ≡ position (bytes_eq ticker) tickers
  found_is_position found some exact = by (position (bytes_eq ticker) tickers) refl
    where
      none : (other : Option ℕ) → IfSome other (λ number. HasNumber tickers number ticker) → position (bytes_eq ticker) tickers ≡ None → other ≡ None
      none None h e = refl
      none (Some number) h e =
          ⊎_elim
          (λ (below : position_or_len (bytes_eq ticker) tickers < length tickers). absurd (true≢false (ap is_some (rw (lt-ltb (position_or_len (bytes_eq ticker) tickers) (length tickers) below) at e))))
          (λ (past : length tickers ≤ position_or_len (bytes_eq ticker) tickers). absurd (no_number number past h))
          (cases_lt (position_or_len (bytes_eq ticker) tickers) (length tickers))

      by : (place : Option ℕ) → position (bytes_eq ticker) tickers ≡ place → found ≡ position (bytes_eq ticker) tickers
      by None e = none found some e ∙ sym e
      by (Some number) e = exact number (number_at_position number e) ∙ sym e

-- the asset that a padded text names
pub found_is_named : (tickers : List (List ℕ)) (text ticker : List ℕ) (found : Option ℕ) → padded text ≡ Some ticker
    → IfSome found (λ number. HasNumber tickers number ticker) → ((number : ℕ) → HasNumber tickers number ticker → found ≡ Some number)
    → found ≡ asset_named tickers text
found_is_named tickers text ticker found is some exact = rw is (found_is_position tickers ticker found some exact)

-- an object has as many keys as members
pub keys_told : (d : Data) (ms : List (String Global × Value)) (count : ℕ) → Some (members_view ms) ≡ as_object d → (IsTrue (length ms == count)) ↔ HasKeys count d
keys_told d ms count is = rw (sym is, members_len-members_view ms) (λ told. ap Some ((Decides-eqb (length ms) count).0 told), λ same. (Decides-eqb (length ms) count).1 (ap (λ o. unwrap_or o 0) same))
