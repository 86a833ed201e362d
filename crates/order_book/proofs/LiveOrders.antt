-- Which of a book's orders are live when one is cancelled and when gaps are closed.
use Rattle.std.proofs.Common.{◌≡◌, ◌≢◌, ℕ, zero, suc, ◌<◌, ◌-◌, Bool, true, false, not, cond, filter, eqb, ◌||◌, Some, List, [], ◌∷◌, ◌++◌, length, get_or, IsTrue, true≢false, refl, sym, ap, subst, ⊎_elim, ◌∙◌, arith}
use Rattle.std.specs.Prelude.{All, Contains, unwrap_or}
use Rattle.std.specs.List.{list_any, slice_get, HoldsAt}
use Rattle.std.proofs.lemmas.Bool.{cases_Bool, cases_lt, eqb-true}
use Rattle.std.proofs.lemmas.List.{length_push}
use Rattle.std.proofs.lemmas.List.Edits.{length-remove}
use Rattle.std.proofs.lemmas.List.Elements.{All-push, All-filter, filter-append, filter_passes}
use Rattle.std.proofs.lemmas.List.Folds.{list_any-append}
use Rattle.std.proofs.lemmas.List.Kept.{AllPairs-filter}
use Rattle.std.proofs.lemmas.Option.{unwrap_or-slice_get}
use Rattle.std.proofs.lemmas.List.Quantifiers.{all_pairs_push}
use Rattle.indexmap.specs.IndexSet.{insert_key}
use Rattle.flow_orders.specs.Orders.{Order, IsOrder}
use Rattle.order_book.specs.Book.{AreLive, HasOrder, IsPlaceOf, without}
use Rattle.order_book.specs.Gaps.{GapSet, is_gap, live_in, AreSlots, AreGaps}
use Rattle.order_book.proofs.Places.{remove_is}

-- whether an order isn't cancelled
abbrev stands : GapSet → Order → Bool
stands gaps o = not (is_gap gaps o.number)

-- ---- no gaps
no_gap : (gaps : GapSet) → gaps.keys ≡ [] → (number : ℕ) → is_gap gaps number ≡ false
no_gap gaps none number = ap (λ (l : List ℕ). list_any (λ k. eqb number k) l) none

pub all_live : (gaps : GapSet) (slots : List Order) → gaps.keys ≡ [] → live_in gaps slots ≡ slots
all_live gaps [] none = refl
all_live gaps (o ∷ slots) none = rw (no_gap gaps none o.number) (ap (λ l. o ∷ l) (all_live gaps slots none))

-- if the last order has a lower number, all have
pub all_below : (slots : List Order) (last : Order) (number : ℕ) → AreSlots slots → Some last ≡ slice_get slots (length slots - 1) → last.number < number → All (λ o. o.number < number) slots
all_below slots last number are is below k d inside =
    let at : get_or slots (length slots - 1) d ≡ last = sym (unwrap_or-slice_get slots (length slots - 1) d) ∙ ap (λ o. unwrap_or o d) (sym is) in
    let less : (get_or slots (length slots - 1) d).number < number = rw at below in
    ⊎_elim
    (λ before. let lower : (get_or slots k d).number < (get_or slots (length slots - 1) d).number = are.ascending k (length slots - 1) d before (omega (arith, inside)) in omega (arith, lower, less))
    (λ other. let same : k ≡ length slots - 1 = omega (arith, other, inside) in rw same less)
    (cases_lt k (length slots - 1))

-- live orders are within the limits, by ascending numbers
pub AreSlots-live : (gaps : GapSet) (slots : List Order) → AreSlots slots → AreSlots (live_in gaps slots)
AreSlots-live gaps slots are = record {
  each = All-filter (stands gaps) IsOrder slots are.each;
  ascending = AllPairs-filter (λ (o : Order) (later : Order). o.number < later.number) (stands gaps) slots are.ascending;
}

-- orders without gaps are slots
pub AreGaps-none : (slots : List Order) (gaps : GapSet) → gaps.keys ≡ [] → AreSlots slots → AreGaps slots gaps
AreGaps-none slots gaps none are = record {
  ordered = are;
  placed = λ number gap. absurd (true≢false (sym gap ∙ no_gap gaps none number));
  count = omega (arith, ap length none, ap length (all_live gaps slots none));
}

-- all gaps are closed
module _ (gaps new : GapSet) (slots after : List Order) (is : after ≡ live_in gaps slots) (none : new.keys ≡ []) where
  pub closed_is : live_in new after ≡ live_in gaps slots
  closed_is = all_live new after none ∙ is

  pub AreGaps-closed : AreGaps slots gaps → AreGaps after new
  AreGaps-closed are = rw is (AreGaps-none (live_in gaps slots) new none (AreSlots-live gaps slots are.ordered))

-- live orders are slots without gaps
pub AreGaps-live : (orders : List Order) (gaps : GapSet) → gaps.keys ≡ [] → AreLive orders → AreGaps orders gaps
AreGaps-live orders gaps none live = AreGaps-none orders gaps none (record { each = live.each; ascending = live.ascending })

-- the same gaps, with more or less room
module _ (old new : GapSet) (same : new.keys ≡ old.keys) (slots : List Order) where
  pub live_same : live_in new slots ≡ live_in old slots
  live_same = ap (λ (l : List ℕ). filter (λ (o : Order). not (list_any (λ k. eqb o.number k) l)) slots) same

  pub AreGaps-same : AreGaps slots old → AreGaps slots new
  AreGaps-same are = record {
    ordered = are.ordered;
    placed = λ number gap. are.placed number (sym (ap (λ (l : List ℕ). list_any (λ k. eqb number k) l) same) ∙ gap);
    count = omega (arith, are.count, ap length same, ap length live_same);
  }

-- ---- orders that are read one after the other
module _ (gaps : GapSet) (slots others : List Order) (first : Order) (is : slots ≡ first ∷ others) (number : ℕ) (numbered : number ≡ first.number) where
  pub first_live : is_gap gaps number ≡ false → live_in gaps slots ≡ first ∷ live_in gaps others
  first_live none = ap (live_in gaps) is ∙ rw (ap (is_gap gaps) (sym numbered) ∙ none) refl

  pub first_passed : is_gap gaps number ≡ true → live_in gaps slots ≡ live_in gaps others
  first_passed gap = ap (live_in gaps) is ∙ rw (ap (is_gap gaps) (sym numbered) ∙ gap) refl

-- ---- an order is added at the end
module _ (slots : List Order) (gaps : GapSet) (o : Order) (are : AreGaps slots gaps) (below : All (λ x. x.number < o.number) slots) where
  new_is_live : is_gap gaps o.number ≡ false
  new_is_live = ⊎_elim
      (λ gap.
      let (place, at) = are.placed o.number gap in
      let less : (get_or slots place o).number < o.number = below place o at.within in
      absurd (omega (arith, less, at.found o)))
      (λ live. live)
      (cases_Bool (is_gap gaps o.number))

  pub live_push : live_in gaps (slots ++ o ∷ []) ≡ live_in gaps slots ++ o ∷ []
  live_push =
      let one : filter (stands gaps) (o ∷ []) ≡ o ∷ [] = rw new_is_live refl in
      filter-append (stands gaps) slots (o ∷ []) ∙ ap (λ l. live_in gaps slots ++ l) one

  place_push : (number place : ℕ) → IsPlaceOf slots number place → IsPlaceOf (slots ++ o ∷ []) number place
  place_push number place at = record {
    within = omega (arith, at.within, length_push slots o);
    found = λ d. ap (λ (x : Order). x.number) (get_or-push slots place d at.within) ∙ at.found d;
  }
    where
      get_or-push : (xs : List Order) (k : ℕ) (d : Order) → k < length xs → get_or (xs ++ o ∷ []) k d ≡ get_or xs k d
      get_or-push [] k d inside = absurd (omega (arith, inside))
      get_or-push (x ∷ xs) zero d inside = refl
      get_or-push (x ∷ xs) (suc k) d inside = get_or-push xs k d (omega (arith, inside))

  pub AreGaps-push : IsOrder o → AreGaps (slots ++ o ∷ []) gaps
  AreGaps-push is = record {
    ordered = record {
      each = All-push IsOrder slots o are.ordered.each is;
      ascending = all_pairs_push (λ (x : Order) (later : Order). x.number < later.number) slots o are.ordered.ascending below;
    };
    placed = λ number gap. let (place, at) = are.placed number gap in (place, place_push number place at);
    count = omega (arith, are.count, ap length live_push, length_push slots o, length_push (live_in gaps slots) o);
  }

-- ---- a live order has its place among the slots
pub contains_live : (gaps : GapSet) (slots : List Order) (place : ℕ) (d : Order) → place < length slots → is_gap gaps (get_or slots place d).number ≡ false
    → Contains (live_in gaps slots) (get_or slots place d)
contains_live gaps [] place d inside live = absurd (omega (arith, inside))
contains_live gaps (o ∷ slots) zero d inside live = rw live (0, omega arith, refl)
contains_live gaps (o ∷ slots) (suc place) d inside live =
    let (k, within, is) = contains_live gaps slots place d (omega (arith, inside)) live in
    ⊎_elim
    (λ gap. rw gap (k, within, is))
    (λ here. rw here (suc k, omega (arith, within), is))
    (cases_Bool (is_gap gaps o.number))

-- what holds of all live orders holds of the one that has the number
of_live : (P : Order → Type 0) (gaps : GapSet) (slots : List Order) (account number : ℕ) → All P (live_in gaps slots) → (has : HasOrder (live_in gaps slots) account number) → P has.order
of_live P gaps slots account number all has = subst P has.live.2 (all has.live.0 has.order has.live.1)

pub none_has : (gaps : GapSet) (slots : List Order) (account number : ℕ) → All (λ o. o.number ≢ number) slots → ¬ HasOrder (live_in gaps slots) account number
none_has gaps slots account number none has =
    of_live (λ o. o.number ≢ number) gaps slots account number (All-filter (stands gaps) (λ (o : Order). o.number ≢ number) slots none) has has.number_is

pub gap_has : (gaps : GapSet) (slots : List Order) (account number : ℕ) → is_gap gaps number ≡ true → ¬ HasOrder (live_in gaps slots) account number
gap_has gaps slots account number gap has =
    let passes : not (is_gap gaps has.order.number) ≡ true = of_live (λ o. stands gaps o ≡ true) gaps slots account number (filter_passes (stands gaps) slots) has in
    true≢false (sym passes ∙ ap (λ n. not (is_gap gaps n)) has.number_is ∙ ap not gap)

-- only one order has the number
only_one : (slots : List Order) (number place : ℕ) (o : Order) → AreSlots slots → IsPlaceOf slots number place → o ≡ get_or slots place o → All (λ x. x.number ≡ number → x.account ≡ o.account) slots
only_one slots number place o are at here k d inside is =
    ⊎_elim
    (λ before. let less : (get_or slots k d).number < (get_or slots place d).number = are.ascending k place d before at.within in absurd (omega (arith, less, is, at.found d)))
    (λ other.
    ⊎_elim
    (λ after. let less : (get_or slots place d).number < (get_or slots k d).number = are.ascending place k d after inside in absurd (omega (arith, less, is, at.found d)))
    (λ same.
    let one : k ≡ place = omega (arith, other, same) in
    ap (λ i. (get_or slots i d).account) one ∙ ap (λ (x : Order). x.account) (get_or_same slots place d o at.within ∙ sym here))
    (cases_lt place k))
    (cases_lt k place)
  where
    get_or_same : (xs : List Order) (i : ℕ) (a b : Order) → i < length xs → get_or xs i a ≡ get_or xs i b
    get_or_same [] i a b inside = absurd (omega (arith, inside))
    get_or_same (x ∷ xs) zero a b inside = refl
    get_or_same (x ∷ xs) (suc i) a b inside = get_or_same xs i a b (omega (arith, inside))

pub other_has : (gaps : GapSet) (slots : List Order) (account number place : ℕ) (o : Order) → AreSlots slots → IsPlaceOf slots number place → o ≡ get_or slots place o
    → HasOrder (live_in gaps slots) account number → o.account ≡ account
other_has gaps slots account number place o are at here has =
    let same = of_live (λ x. x.number ≡ number → x.account ≡ o.account) gaps slots account number
    (All-filter (stands gaps) (λ (x : Order). x.number ≡ number → x.account ≡ o.account) slots (only_one slots number place o are at here)) has in
    sym (same has.number_is) ∙ has.account_is

pub has_here : (gaps : GapSet) (slots : List Order) (account number place : ℕ) (o : Order) → IsPlaceOf slots number place → o ≡ get_or slots place o → o.account ≡ account → is_gap gaps number ≡ false
    → HasOrder (live_in gaps slots) account number
has_here gaps slots account number place o at here own live =
    let is : o.number ≡ number = ap (λ (x : Order). x.number) here ∙ at.found o in
    let there = contains_live gaps slots place o at.within (ap (is_gap gaps) (at.found o) ∙ live) in
    record { order = o; live = rw (sym here) at there; account_is = own; number_is = is }

-- the order at the place that was found is a live one
pub contains_at : (gaps : GapSet) (all slots : List Order) (place : ℕ) (o : Order) → all ≡ slots → HoldsAt (Contains (live_in gaps all)) all place → o ≡ get_or slots place o
    → Contains (live_in gaps slots) o
contains_at gaps all slots place o same held here =
    let there = subst (λ (xs : List Order). HoldsAt (Contains (live_in gaps xs)) xs place) same held in
    subst (Contains (live_in gaps slots)) (sym here) (there o)

pub number_at : (all slots : List Order) (number place : ℕ) (o : Order) → all ≡ slots → IsPlaceOf all number place → o ≡ get_or slots place o → o.number ≡ number
number_at all slots number place o same at here =
    let there = subst (λ (xs : List Order). IsPlaceOf xs number place) same at in
    ap (λ (x : Order). x.number) here ∙ there.found o

-- ---- one more gap
module _ (old new : GapSet) (number : ℕ) (more : new.keys ≡ old.keys ++ number ∷ []) where
  gap_more : (n : ℕ) → is_gap new n ≡ (is_gap old n || eqb n number)
  gap_more n =
      ap (λ (l : List ℕ). list_any (λ k. eqb n k) l) more ∙ list_any-append (λ k. eqb n k) old.keys (number ∷ []) ∙ ap (λ b. is_gap old n || b) (or_false (eqb n number))
    where
      or_false : (b : Bool) → (b || false) ≡ b
      or_false true = refl
      or_false false = refl

  -- one order: whether it is live before and after another gap
  one : (o : Order) (left all : List Order) (now before same : Bool) → now ≡ (before || same) → eqb o.number number ≡ same → left ≡ without all number
      → cond (not now) (o ∷ left) left ≡ without (cond (not before) (o ∷ all) all) number
  one o left all now true same is equal rest = rw is rest
  one o left all now false true is equal rest = rw (is, equal) rest
  one o left all now false false is equal rest = rw (is, equal) (ap (λ l. o ∷ l) rest)

  pub live_more : (slots : List Order) → live_in new slots ≡ without (live_in old slots) number
  live_more [] = refl
  live_more (o ∷ slots) = one o (live_in new slots) (live_in old slots) (is_gap new o.number) (is_gap old o.number) (eqb o.number number) (gap_more o.number) refl (live_more slots)

  more_at : (slots : List Order) (place : ℕ) → AreGaps slots old → IsPlaceOf slots number place → is_gap old number ≡ false → (d : Order) → AreGaps slots new
  more_at slots place are at live d = record {
    ordered = are.ordered;
    placed = placed;
    count =
        let there = contains_live old slots place d at.within (ap (is_gap old) (at.found d) ∙ live) in
        let o = get_or slots place d in
        let left = remove_is (live_in old slots) there.0 number o (AreSlots-live old slots are.ordered).ascending there.1 (ap (λ (x : Order). x.number) there.2 ∙ at.found d) in
        omega (arith, are.count, ap length more, length_push old.keys number, ap length (live_more slots), ap length left, length-remove (live_in old slots) there.0 there.1);
  }
    where
      placed : (n : ℕ) → IsTrue (is_gap new n) → (k : ℕ) × IsPlaceOf slots n k
      placed n gap = ⊎_elim
          (λ before. are.placed n before)
          (λ none. (
            place,
            record {
              within = at.within;
              found = λ e. at.found e ∙ sym (equal (sym (gap_more n ∙ ap (λ b. b || eqb n number) none) ∙ gap));
            },
          ))
          (cases_Bool (is_gap old n))
        where
          equal : eqb n number ≡ true → n ≡ number
          equal same = eqb-true n number same

  pub AreGaps-more : (slots : List Order) (place : ℕ) → AreGaps slots old → IsPlaceOf slots number place → is_gap old number ≡ false → AreGaps slots new
  AreGaps-more [] place are at live = absurd (omega (arith, at.within))
  AreGaps-more (o ∷ slots) place are at live = more_at (o ∷ slots) place are at live o

-- the live order of a number becomes a gap
pub one_gap_more : (old new : GapSet) (number : ℕ) (slots : List Order) → AreGaps slots old → (place : ℕ) × IsPlaceOf slots number place → is_gap old number ≡ false
    → new.keys ≡ insert_key eqb old.keys number → AreGaps slots new × (live_in new slots ≡ without (live_in old slots) number)
one_gap_more old new number slots are (place, there) live inserted =
    let more = rw live at inserted in
    (AreGaps-more old new number more slots place are there live, live_more old new number more slots)
