-- Legs that are put into a weight vector.
use Rattle.std.proofs.Common.{◌≡◌, ℕ, ◌+◌, ◌<◌, ◌≤◌, List, [], ◌∷◌, ◌++◌, length, get_or, take, drop, Option, Some, None, option_map, refl, sym, ap, ◌∙◌, arith}
use Rattle.std.specs.List.{insert}
use Rattle.std.proofs.lemmas.Bool.{eq-eqb, lt-ltb, le-ltb, ne_eqb}
use Rattle.std.proofs.lemmas.List.{take_more, drop_more, drop_all, append_assoc}
use Rattle.weight_rows.specs.declared.entries.Entry.{Entry}
use Rattle.std.specs.Prelude.{String, string_bytes, option_and_then}
use Rattle.std.specs.declared.alloc.Global.{Global}
use Rattle.serde_json.specs.View.{view, members_view}
use Rattle.serde_json.specs.declared.value.Value.{Value}
use Rattle.order_text.specs.Private.{entry_of, put_entry, put_members}

-- the legs before a place have lower assets
pub record PutsAfter (row : List Entry) (asset place : ℕ) : Type 0 where
  pub within : place ≤ length row
  pub following : (e : Entry) → e.asset ≡ asset → put_entry e row ≡ option_map (λ more. take place row ++ more) (put_entry e (drop place row))

option_map-id : {A : Type 0} (o : Option A) → o ≡ option_map (λ x. x) o
option_map-id None = refl
option_map-id (Some x) = refl

option_map-twice : {A B C : Type 0} (f : B → C) (g : A → B) (o : Option A) → option_map f (option_map g o) ≡ option_map (λ x. f (g x)) o
option_map-twice f g None = refl
option_map-twice f g (Some x) = refl

option_map-same : {A B : Type 0} (f g : A → B) (o : Option A) → ((x : A) → f x ≡ g x) → option_map f o ≡ option_map g o
option_map-same f g None same = refl
option_map-same f g (Some x) same = ap Some (same x)

-- nothing is before the first place
pub first_place : (row : List Entry) (asset : ℕ) → PutsAfter row asset 0
first_place row asset = record { within = omega arith; following = λ e is. option_map-id (put_entry e row) }

module _ (row : List Entry) (asset place : ℕ) (d : Entry) (within : place < length row) (h : PutsAfter row asset place) where
  -- the leg at the place has the asset
  pub put_taken : (get_or row place d).asset ≡ asset → (e : Entry) → e.asset ≡ asset → put_entry e row ≡ None
  put_taken there e is =
      h.following e is ∙ rw (drop_more row place d within, eq-eqb e.asset (get_or row place d).asset (is ∙ sym there)) refl

  -- the leg at the place has a higher asset
  pub put_here : asset < (get_or row place d).asset → (e : Entry) → e.asset ≡ asset → put_entry e row ≡ Some (insert row place e)
  put_here above e is =
      h.following e is
      ∙ rw (drop_more row place d within, ne_eqb e.asset (get_or row place d).asset (λ same. omega (arith, same, is, above)), lt-ltb e.asset (get_or row place d).asset (omega (arith, is, above))) refl

  -- the leg at the place has a lower asset
  pub one_place_more : (get_or row place d).asset < asset → PutsAfter row asset (place + 1)
  one_place_more below = record {
    within = omega (arith, within);
    following = λ e is.
        h.following e is
        ∙ rw (drop_more row place d within, ne_eqb e.asset (get_or row place d).asset (λ same. omega (arith, same, is, below)), le-ltb e.asset (get_or row place d).asset (omega (arith, is, below)), take_more row place d within)
        (option_map-twice (λ more. take place row ++ more) (λ more. get_or row place d ∷ more) (put_entry e (drop (place + 1) row))
        ∙ option_map-same _ _ (put_entry e (drop (place + 1) row)) (λ more. sym (append_assoc (take place row) (get_or row place d ∷ []) more)));
  }

-- all legs have lower assets
pub put_last : (row : List Entry) (asset place : ℕ) → length row ≤ place → PutsAfter row asset place → (e : Entry) → e.asset ≡ asset → put_entry e row ≡ Some (insert row place e)
put_last row asset place past h e is = h.following e is ∙ rw (drop_all place row past) refl

module _ (tickers : List (List ℕ)) (es left : List (String Global × Value)) (key : String Global) (value : Value) (row : List Entry) (is : es ≡ (key, value) ∷ left) where
  -- the leg of a member is put
  pub one_member_more : (more : List Entry) → option_and_then (λ e. put_entry e row) (entry_of tickers (string_bytes key) (view value)) ≡ Some more
      → put_members tickers (members_view es) row ≡ put_members tickers (members_view left) more
  one_member_more more put = rw (is, put) refl

  -- the leg of a member can't be put
  pub no_member_more : option_and_then (λ e. put_entry e row) (entry_of tickers (string_bytes key) (view value)) ≡ None → put_members tickers (members_view es) row ≡ None
  no_member_more none = rw (is, none) refl
