-- What the members of an object of weights say, and the weight vector that is made of them one after the other.
use Rattle.std.proofs.Common.{◌≡◌, ◌≢◌, ℕ, ℤ, zero, suc, ◌+◌, ◌<◌, ◌≤◌, eqb, ltb, cond, Bool, true, false, List, [], ◌∷◌, ◌++◌, length, length-append, ◌⊎◌, inl, inr, Option, Some, None, Result, Ok, Err, IfOk, option_map, is_some, true≢false, refl, sym, ap, subst, ◌∙◌, arith}
use Rattle.std.specs.Prelude.{option_and_then, unwrap_or, ⊤, slice_index, pos, neg_ℤ, int_le, int_lt, ◌&&◌, if◌then◌else◌, ◌^◌}
use Rattle.std.specs.List.{AllByRecursion}
use Rattle.std.specs.List.Sorted.{IsStrictlyIncreasing}
use Rattle.std.proofs.lemmas.Bool.{eqb-true, eqb-false, ltb-true, ltb-false}
use Rattle.std.proofs.lemmas.Int.{ints}
use Rattle.std.proofs.lemmas.List.{length-map}
use Rattle.std.proofs.lemmas.List.Elements.{All-from_recursion, recursion_from_All}
use Rattle.weight_rows.specs.declared.entries.Entry.{Entry}
use Rattle.weight_rows.specs.Rows.{assets_of}
use Rattle.wire_fields.specs.Numbers.{IsSigned}
use Rattle.serde_json.specs.Data.{Data, Members, no_members, member}
use Rattle.serde_json.specs.Events.{members_len}
use Rattle.serde_json.specs.Find.{get, as_object}
use Rattle.order_text.specs.declared.line.LineFault.{LineFault}
use Rattle.order_text.specs.Lines.{signed_of, asset_named, IsEntryOf, AreWeights, Weights, HasAt}
use Rattle.order_text.specs.Private.{members_at, in_signed_32_bits, weight_of, entry_of, put_entry, put_members}

-- ---- elements, and assets that ascend

-- an element of a list
abbrev pub Among : {A : Type 0} → A → List A → Type 0
Among x [] = ⊥
Among x (y ∷ ys) = (x ≡ y) ⊎ Among x ys

-- a list's elements have what holds of each
pub among_all : {A : Type 0} (P : A → Type 0) (xs : List A) (x : A) → AllByRecursion P xs → Among x xs → P x
among_all P [] x all in_ = absurd in_
among_all P (y ∷ ys) x all (inl is) = subst P (sym is) all.0
among_all P (y ∷ ys) x all (inr in_) = among_all P ys x all.1 in_

pub all_among : {A : Type 0} (P : A → Type 0) (xs : List A) → ((x : A) → Among x xs → P x) → AllByRecursion P xs
all_among P [] each = tt
all_among P (y ∷ ys) each = (each y (inl refl), all_among P ys (λ x in_. each x (inr in_)))

-- each asset is above the one before it, and the first is at least `low`
abbrev pub Rises : ℕ → List Entry → Type 0
Rises low [] = ⊤
Rises low (e ∷ row) = (low ≤ e.asset) × Rises (suc e.asset) row

pub rises_from : (low high : ℕ) (row : List Entry) → low ≤ high → Rises high row → Rises low row
rises_from low high [] lower h = tt
rises_from low high (e ∷ row) lower h = (omega (arith, lower, h.0), h.1)

-- each leg's asset is at least `low`
pub not_below : (low : ℕ) (row : List Entry) (e : Entry) → Rises low row → Among e row → low ≤ e.asset
not_below low [] e h in_ = absurd in_
not_below low (first ∷ row) e h (inl is) = omega (arith, h.0, ap (λ (x : Entry). x.asset) is)
not_below low (first ∷ row) e h (inr in_) = omega (arith, h.0, not_below (suc first.asset) row e h.1 in_)

-- the first asset is at least `low`
abbrev Starts : ℕ → List Entry → Type 0
Starts low [] = ⊤
Starts low (e ∷ row) = low ≤ e.asset

-- a place further on in a list with one more
further : (x : ℕ) (xs : List ℕ) (k : ℕ) → slice_index (x ∷ xs) (suc k + 1) ≡ slice_index xs (k + 1)
further x xs k =
    let same : suc k + 1 ≡ suc (k + 1) = omega arith in
    ap (slice_index (x ∷ xs)) same

-- ascending assets, both ways
pub rises_where : (low : ℕ) (row : List Entry) → Starts low row → IsStrictlyIncreasing (assets_of row) → Rises low row
rises_where low [] start h = tt
rises_where low (e ∷ []) start h = (start, tt)
rises_where low (e ∷ f ∷ row) start h = (start, rises_where (suc e.asset) (f ∷ row) (h 0 (omega arith)) (λ k within. subst (λ (n : ℕ). slice_index (assets_of (f ∷ row)) k < n) (further e.asset (assets_of (f ∷ row)) k) (h (suc k) (omega (arith, within)))))

starts_at_0 : (row : List Entry) → Starts 0 row
starts_at_0 [] = tt
starts_at_0 (e ∷ row) = omega arith

pub rises_of : (row : List Entry) → IsStrictlyIncreasing (assets_of row) → Rises 0 row
rises_of row h = rises_where 0 row (starts_at_0 row) h

pub ascending_of : (low : ℕ) (row : List Entry) → Rises low row → IsStrictlyIncreasing (assets_of row)
ascending_of low [] h k within = absurd (omega (arith, within))
ascending_of low (e ∷ []) h k within = absurd (omega (arith, within))
ascending_of low (e ∷ f ∷ row) h zero within = h.1.0
ascending_of low (e ∷ f ∷ row) h (suc k) within =
    subst (λ (n : ℕ). slice_index (assets_of (f ∷ row)) k < n) (sym (further e.asset (assets_of (f ∷ row)) k)) (ascending_of (suc e.asset) (f ∷ row) h.1 k (omega (arith, within)))

-- ---- no more legs than places

-- a list of legs without its first one of an asset
abbrev without : ℕ → List Entry → List Entry
without asset [] = []
without asset (e ∷ row) = cond (eqb e.asset asset) row (e ∷ without asset row)

-- What the list has without this leg.
record Lacks (asset low : ℕ) (row less : List Entry) : Type 0 where
  long : length row ≤ suc (length less)
  rises : Rises low less
  still : (x : Entry) → Among x less → Among x row × (x.asset ≢ asset)

lacks : (asset low : ℕ) (row : List Entry) → Rises low row → Lacks asset low row (without asset row)
lacks asset low [] h = record { long = omega arith; rises = tt; still = λ x in_. absurd in_ }
lacks asset low (e ∷ row) h = by (eqb e.asset asset) refl (lacks asset (suc e.asset) row h.1)
  where
    by : (b : Bool) → eqb e.asset asset ≡ b → Lacks asset (suc e.asset) row (without asset row) → Lacks asset low (e ∷ row) (cond b row (e ∷ without asset row))
    by true same more = record {
      long = omega arith;
      rises = rises_from low (suc e.asset) row (omega (arith, h.0)) h.1;
      still = λ x in_. (inr in_, λ is. omega (arith, is, eqb-true e.asset asset same, not_below (suc e.asset) row x h.1 in_));
    }
    by false other more = record {
      long = omega (arith, more.long);
      rises = (h.0, more.rises);
      still = still_by;
    }
      where
        still_by : (x : Entry) → Among x (e ∷ without asset row) → Among x (e ∷ row) × (x.asset ≢ asset)
        still_by x (inl is) = (inl is, subst (λ (y : Entry). y.asset ≢ asset) (sym is) (eqb-false e.asset asset other))
        still_by x (inr in_) = let old = more.still x in_ in (inr old.0, old.1)

-- legs of different assets, each one of `assets`, are at most as many as these
pub at_most : (assets : List ℕ) (row : List Entry) → Rises 0 row → ((x : Entry) → Among x row → Among x.asset assets) → length row ≤ length assets
at_most [] [] h each = omega arith
at_most [] (e ∷ row) h each = absurd (each e (inl refl))
at_most (asset ∷ assets) row h each =
    let less = lacks asset 0 row h in
    let more = at_most assets (without asset row) less.rises (λ x in_. let old = less.still x in_ in other x old.1 (each x old.0)) in
    omega (arith, more, less.long)
  where
    other : (x : Entry) → x.asset ≢ asset → Among x.asset (asset ∷ assets) → Among x.asset assets
    other x not (inl is) = absurd (not is)
    other x not (inr in_) = in_

-- a leg has its asset among those of its list
pub asset_among : (row : List Entry) (x : Entry) → Among x row → Among x.asset (assets_of row)
asset_among [] x in_ = absurd in_
asset_among (e ∷ row) x (inl is) = inl (ap (λ (y : Entry). y.asset) is)
asset_among (e ∷ row) x (inr in_) = inr (asset_among row x in_)

-- as many legs as in another list, each of them one of that list, are that list
pub same_row : (low : ℕ) (row others : List Entry) → Rises low row → Rises low others → length row ≡ length others → ((x : Entry) → Among x row → Among x others) → row ≡ others
same_row low [] [] h g long each = refl
same_row low [] (f ∷ others) h g long each = absurd (omega (arith, long))
same_row low (e ∷ row) [] h g long each = absurd (omega (arith, long))
same_row low (e ∷ row) (f ∷ others) h g long each = by (λ next h g long each. same_row next row others h g long each) (each e (inl refl))
  where
    -- a leg above the first of the others is one of the rest
    past : (x : Entry) → Among x (f ∷ others) → f.asset < x.asset → Among x others
    past x (inl is) above = absurd (omega (arith, above, ap (λ (y : Entry). y.asset) is))
    past x (inr in_) above = in_

    by : ((next : ℕ) → Rises next row → Rises next others → length row ≡ length others → ((x : Entry) → Among x row → Among x others) → row ≡ others) → Among e (f ∷ others) → e ∷ row ≡ f ∷ others
    by again (inl is) =
        let asset : e.asset ≡ f.asset = ap (λ (y : Entry). y.asset) is in
        let rest = again (suc e.asset) h.1 (rises_from (suc e.asset) (suc f.asset) others (omega (arith, asset)) g.1) (omega (arith, long)) (λ x in_. past x (each x (inr in_)) (omega (arith, asset, not_below (suc e.asset) row x h.1 in_))) in
        ap (λ (y : Entry). y ∷ row) is ∙ ap (λ xs. f ∷ xs) rest
    by again (inr in_) =
        let above = not_below (suc f.asset) others e g.1 in_ in
        let few = at_most (assets_of others) (e ∷ row) (omega arith, h.1) (λ x here. asset_among others x (past x (each x here) (omega (arith, above, not_below e.asset (e ∷ row) x (omega arith, h.1) here)))) in
        absurd (omega (arith, few, long, length-map others (λ (y : Entry). y.asset)))

-- ---- one leg more

-- What a list with one more leg has.
pub record HasPut (e : Entry) (row more : List Entry) : Type 0 where
  pub there : Among e more
  pub kept : (x : Entry) → Among x row → Among x more
  pub only : (x : Entry) → Among x more → (x ≡ e) ⊎ Among x row
  pub long : length more ≡ suc (length row)
  pub rises : (low : ℕ) → low ≤ e.asset → Rises low row → Rises low more

-- what the answer of `put_entry` says
abbrev pub Puts : Entry → List Entry → Option (List Entry) → Type 0
Puts e row None = Among e.asset (assets_of row)
Puts e row (Some more) = HasPut e row more

pub puts : (e : Entry) (row : List Entry) → Puts e row (put_entry e row)
puts e [] = record { there = inl refl; kept = λ x in_. absurd in_; only = λ x in_. in_; long = refl; rises = λ low from h. (from, tt) }
puts e (first ∷ row) = by (eqb e.asset first.asset) (ltb e.asset first.asset) refl refl (put_entry e row) (puts e row)
  where
    by : (b c : Bool) → eqb e.asset first.asset ≡ b → ltb e.asset first.asset ≡ c → (o : Option (List Entry)) → Puts e row o → Puts e (first ∷ row) (cond b None (cond c (Some (e ∷ first ∷ row)) (option_map (λ more. first ∷ more) o)))
    by true c same lower o put = inl (eqb-true e.asset first.asset same)
    by false true other lower o put = record {
      there = inl refl;
      kept = λ x in_. inr in_;
      only = λ x in_. in_;
      long = refl;
      rises = λ low from h. (from, (ltb-true e.asset first.asset lower, h.1));
    }
    by false false other higher None put = inr put
    by false false other higher (Some more) put = record {
      there = inr put.there;
      kept = kept_by;
      only = only_by;
      long = ap suc put.long;
      rises = λ low from h. (h.0, put.rises (suc first.asset) (omega (arith, ltb-false e.asset first.asset higher, eqb-false e.asset first.asset other)) h.1);
    }
      where
        kept_by : (x : Entry) → Among x (first ∷ row) → Among x (first ∷ more)
        kept_by x (inl is) = inl is
        kept_by x (inr in_) = inr (put.kept x in_)

        only_by : (x : Entry) → Among x (first ∷ more) → (x ≡ e) ⊎ Among x (first ∷ row)
        only_by x (inl is) = inr (inl is)
        only_by x (inr in_) = elim (put.only x in_) [ inl is ↦ inl is | inr old ↦ inr (inr old) ]

-- ---- what a member says

-- its key names the asset, and its value is the weight
abbrev pub Means : List (List ℕ) → List ℕ → Data → Entry → Type 0
Means tickers key value e = (asset_named tickers key ≡ Some e.asset) × (signed_of value ≡ Some e.weight) × IsSigned 4 e.weight

nat_is : (a b : ℕ) → Some a ≡ Some b → a ≡ b
nat_is a b is = ap (λ o. unwrap_or o 0) is

int_is : (a b : ℤ) → Some a ≡ Some b → a ≡ b
int_is a b is = ap (λ o. unwrap_or o (pos 0)) is

entry_is : (a b : Entry) → Some a ≡ Some b → a ≡ b
entry_is a b is = ap (λ o. unwrap_or o (record { asset = 0; weight = pos 0 })) is

-- the weight that a value is, if it is one
weight_means : (d : Data) (z : ℤ) → weight_of d ≡ Some z → (signed_of d ≡ Some z) × IsSigned 4 z
weight_means d z e = by (signed_of d) e
  where
    in_by : (y : ℤ) (a b : Bool) → int_le (neg_ℤ (pos (2 ^ 31))) y ≡ a → int_lt y (pos (2 ^ 31)) ≡ b → (if a && b then Some y else None) ≡ Some z → (Some y ≡ Some z) × IsSigned 4 z
    in_by y true true p q e = (e, subst (IsSigned 4) (int_is y z e) (omega (arith, ints, p, q), omega (arith, ints, p, q)))
    in_by y true false p q e = absurd (cc)
    in_by y false b p q e = absurd (cc)

    by : (o : Option ℤ) → option_and_then in_signed_32_bits o ≡ Some z → (o ≡ Some z) × IsSigned 4 z
    by None e = absurd (cc)
    by (Some y) e = in_by y (int_le (neg_ℤ (pos (2 ^ 31))) y) (int_lt y (pos (2 ^ 31))) refl refl e

means_weight : (d : Data) (z : ℤ) → signed_of d ≡ Some z → IsSigned 4 z → weight_of d ≡ Some z
means_weight d z e fits = ap (option_and_then in_signed_32_bits) e ∙ by (int_le (neg_ℤ (pos (2 ^ 31))) z) (int_lt z (pos (2 ^ 31))) refl refl
  where
    by : (a b : Bool) → int_le (neg_ℤ (pos (2 ^ 31))) z ≡ a → int_lt z (pos (2 ^ 31)) ≡ b → (if a && b then Some z else None) ≡ Some z
    by true true p q = refl
    by true false p q = absurd (omega (arith, ints, q, fits.1))
    by false b p q = absurd (omega (arith, ints, p, fits.0))

-- the leg that a member is, if it is one
pub entry_means : (tickers : List (List ℕ)) (key : List ℕ) (d : Data) (x : Entry) → entry_of tickers key d ≡ Some x → Means tickers key d x
entry_means tickers key d x e = by (asset_named tickers key) refl e
  where
    weighed : (asset : ℕ) (o : Option ℤ) → asset_named tickers key ≡ Some asset → weight_of d ≡ o → option_map (λ weight. record { asset = asset; weight = weight }) o ≡ Some x → Means tickers key d x
    weighed asset None p q e = absurd (cc)
    weighed asset (Some z) p q e = subst (Means tickers key d) (entry_is (record { asset = asset; weight = z }) x e) (let w = weight_means d z q in (p, w.0, w.1))

    by : (o : Option ℕ) → asset_named tickers key ≡ o → option_and_then (λ asset. option_map (λ weight. record { asset = asset; weight = weight }) (weight_of d)) o ≡ Some x → Means tickers key d x
    by None p e = absurd (cc)
    by (Some asset) p e = weighed asset (weight_of d) p refl e

pub means_entry : (tickers : List (List ℕ)) (key : List ℕ) (d : Data) (x : Entry) → Means tickers key d x → entry_of tickers key d ≡ Some x
means_entry tickers key d x means = rw (means.0, means_weight d x.weight means.1 means.2) refl

-- ---- all members

-- the assets that members name
abbrev with_named : Option ℕ → List ℕ → List ℕ
with_named None assets = assets
with_named (Some asset) assets = asset ∷ assets

abbrev named : List (List ℕ) → Members → List ℕ
named tickers no_members = []
named tickers (member key value members) = with_named (asset_named tickers key) (named tickers members)

-- members name at most as many assets as there are members
named_few : (tickers : List (List ℕ)) (members : Members) → length (named tickers members) ≤ members_len members
named_few tickers no_members = omega arith
named_few tickers (member key value members) = by (asset_named tickers key) (named_few tickers members)
  where
    by : (o : Option ℕ) → length (named tickers members) ≤ members_len members → length (with_named o (named tickers members)) ≤ suc (members_len members)
    by None few = omega (arith, few)
    by (Some asset) few = omega (arith, few)

-- the asset of a leg that a member is, is among the named ones
entry_named : (tickers : List (List ℕ)) (members : Members) (x : Entry) → IsEntryOf tickers members x → Among x.asset (named tickers members)
entry_named tickers no_members x is = absurd is
entry_named tickers (member key value others) x (inl is) = rw is.0 (inl refl)
entry_named tickers (member key value members) x (inr is) = by (asset_named tickers key) (entry_named tickers members x is)
  where
    by : (o : Option ℕ) → Among x.asset (named tickers members) → Among x.asset (with_named o (named tickers members))
    by None in_ = in_
    by (Some asset) in_ = inr in_

among_left : (a : ℕ) (xs ys : List ℕ) → Among a xs → Among a (xs ++ ys)
among_left a [] ys in_ = absurd in_
among_left a (x ∷ xs) ys (inl is) = inl is
among_left a (x ∷ xs) ys (inr in_) = inr (among_left a xs ys in_)

among_right : (a : ℕ) (xs ys : List ℕ) → Among a ys → Among a (xs ++ ys)
among_right a [] ys in_ = in_
among_right a (x ∷ xs) ys in_ = inr (among_right a xs ys in_)

-- a list of legs, each with an asset of an old list or of a member, is no longer than both
bound : (tickers : List (List ℕ)) (members : Members) (old row : List Entry) → Rises 0 row → ((x : Entry) → Among x row → Among x.asset (assets_of old) ⊎ IsEntryOf tickers members x) → length row ≤ length old + members_len members
bound tickers members old row h each =
    let few = at_most (assets_of old ++ named tickers members) row h (λ x in_. elim (each x in_) [
      | inl here ↦ among_left x.asset (assets_of old) (named tickers members) here
      | inr says ↦ among_right x.asset (assets_of old) (named tickers members) (entry_named tickers members x says)
    ]) in
    omega (arith, few, length-append (assets_of old) (named tickers members), length-map old (λ (y : Entry). y.asset), named_few tickers members)

module _ (tickers : List (List ℕ)) where
  -- What a list has, once members were put into an old one.
  pub record HasGone (members : Members) (old row : List Entry) : Type 0 where
    pub covers : (x : Entry) → Among x old ⊎ IsEntryOf tickers members x → Among x row
    pub each : (x : Entry) → Among x row → Among x old ⊎ IsEntryOf tickers members x
    pub long : length row ≡ length old + members_len members
    pub rises : Rises 0 old → Rises 0 row

  -- there is no such list
  abbrev IsNoRow : Members → List Entry → Type 0
  IsNoRow members old = (row : List Entry) → Rises 0 row → length row ≡ length old + members_len members → ((x : Entry) → Among x row → Among x old ⊎ IsEntryOf tickers members x) → ⊥

  -- what the answer of `put_members` says
  abbrev Goes : Members → List Entry → Option (List Entry) → Type 0
  Goes members old None = IsNoRow members old
  Goes members old (Some row) = HasGone members old row

  goes : (members : Members) (old : List Entry) → Goes members old (put_members tickers members old)
  goes no_members old = record { covers = λ x in_. elim in_ [ inl in_ ↦ in_ | inr is ↦ absurd is ]; each = λ x in_. inl in_; long = omega arith; rises = λ h. h }
  goes (member key value members) old = by (entry_of tickers key value) refl (λ more. goes members more)
    where
      -- the leg that the member is
      says : (e x : Entry) → entry_of tickers key value ≡ Some e → Means tickers key value x → x ≡ e
      says e x is means = entry_is x e (sym (means_entry tickers key value x means) ∙ is)

      next : ((more : List Entry) → Goes members more (put_members tickers members more)) → (e : Entry) → entry_of tickers key value ≡ Some e → (o : Option (List Entry)) → Puts e old o
          → Goes (member key value members) old (option_and_then (λ more. put_members tickers members more) o)
      next again e is None taken = λ row h long each.
          let few = bound tickers members old row h (λ x in_. elim (each x in_) [
            | inl here ↦ inl (asset_among old x here)
            | inr (inl means) ↦ inl (subst (λ (y : Entry). Among y.asset (assets_of old)) (sym (says e x is means)) taken)
            | inr (inr more) ↦ inr more
          ]) in
          omega (arith, few, long)
      next again e is (Some more) put = after (put_members tickers members more) (again more)
        where
          before : (x : Entry) → Among x old ⊎ IsEntryOf tickers (member key value members) x → Among x more ⊎ IsEntryOf tickers members x
          before x (inl here) = inl (put.kept x here)
          before x (inr (inl means)) = inl (subst (λ (y : Entry). Among y more) (sym (says e x is means)) put.there)
          before x (inr (inr says)) = inr says

          back : (x : Entry) → Among x more ⊎ IsEntryOf tickers members x → Among x old ⊎ IsEntryOf tickers (member key value members) x
          back x (inr says) = inr (inr says)
          back x (inl here) = elim (put.only x here) [ inl this ↦ inr (inl (subst (Means tickers key value) (sym this) (entry_means tickers key value e is))) | inr in_ ↦ inl in_ ]

          after : (o : Option (List Entry)) → Goes members more o → Goes (member key value members) old o
          after None none = λ row h long each. none row h (omega (arith, long, put.long)) (λ x in_. before x (each x in_))
          after (Some row) so = record {
            covers = λ x in_. so.covers x (before x in_);
            each = λ x in_. back x (so.each x in_);
            long = omega (arith, so.long, put.long);
            rises = λ h. so.rises (put.rises 0 (omega arith) h);
          }

      by : (o : Option Entry) → entry_of tickers key value ≡ o → ((more : List Entry) → Goes members more (put_members tickers members more))
          → Goes (member key value members) old (option_and_then (λ more. put_members tickers members more) (option_and_then (λ e. put_entry e old) o))
      by None is again = λ row h long each.
          let few = bound tickers members old row h (λ x in_. elim (each x in_) [
            | inl here ↦ inl (asset_among old x here)
            | inr (inl means) ↦ absurd (true≢false (ap is_some (sym (means_entry tickers key value x means) ∙ is)))
            | inr (inr more) ↦ inr more
          ]) in
          omega (arith, few, long)
      by (Some e) is again = next again e is (put_entry e old) (puts e old)

  -- the weight vector that is made is the one that the members are
  pub row_made : (members : Members) (row : List Entry) → put_members tickers members [] ≡ Some row → AreWeights tickers members row
  row_made members row is =
      let so : HasGone members [] row = subst (Goes members []) is (goes members []) in
      record {
        ascending = ascending_of 0 row (so.rises tt);
        count = omega (arith, so.long);
        each = All-from_recursion (IsEntryOf tickers members) row (all_among (IsEntryOf tickers members) row (λ x in_. elim (so.each x in_) [ inl none ↦ absurd none | inr says ↦ says ]));
      }

  -- the weight vector that the members are is the one that is made
  pub made_where : (members : Members) (row : List Entry) → AreWeights tickers members row → put_members tickers members [] ≡ Some row
  made_where members row are = by (put_members tickers members []) refl (goes members [])
    where
      each : (x : Entry) → Among x row → IsEntryOf tickers members x
      each x in_ = among_all (IsEntryOf tickers members) row x (recursion_from_All (IsEntryOf tickers members) row are.each) in_

      by : (o : Option (List Entry)) → put_members tickers members [] ≡ o → Goes members [] o → o ≡ Some row
      by None is none = absurd (none row (rises_of row are.ascending) (omega (arith, are.count)) (λ x in_. inr (each x in_)))
      by (Some made) is so =
          ap Some (sym (same_row 0 row made (rises_of row are.ascending) (so.rises tt) (omega (arith, are.count, so.long)) (λ x in_. so.covers x (inr (each x in_)))))

  -- the answer of what makes a weight vector, for the object at a key
  pub made_at : (d : Data) (key : List ℕ) (members : Members) (result : Result (List Entry) LineFault) → members_at key d ≡ Some members → IfOk result (λ row. put_members tickers members [] ≡ Some row) → IfOk result (λ row. HasAt tickers d key (Weights row))
  made_at d key members (Ok row) there is = by (get key d) refl there
    where
      by : (o : Option Data) → get key d ≡ o → option_and_then as_object o ≡ Some members → HasAt tickers d key (Weights row)
      by None at there = absurd (cc)
      by (Some value) at there = (value, at, (members, there, row_made members row is))
  made_at d key others (Err fault) there is = tt

  pub none_at : (d : Data) (key : List ℕ) (members : Members) → members_at key d ≡ Some members → put_members tickers members [] ≡ None → (row : List Entry) → HasAt tickers d key (Weights row) → ⊥
  none_at d key members there none row has =
      let own : members_at key d ≡ Some has.2.0 = rw has.1 has.2.1 in
      let same : has.2.0 ≡ members = members_are has.2.0 members (sym own ∙ there) in
      absurd (true≢false (ap is_some (sym (made_where members row (subst (λ (ms : Members). AreWeights tickers ms row) same has.2.2)) ∙ none)))
    where
      members_are : (x y : Members) → Some x ≡ Some y → x ≡ y
      members_are x y is = ap (λ o. unwrap_or o no_members) is
