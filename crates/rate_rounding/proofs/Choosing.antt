-- Rates that are chosen order by order, from imbalances that are kept in a list.
use Rattle.std.proofs.Common.{◌≡◌, ℕ, zero, suc, ◌+◌, ◌*◌, ◌^◌, ◌<◌, ◌≤◌, Bool, true, false, ltb, ℤ, pos, ◌+ℤ◌, ◌*ℤ◌, List, [], ◌∷◌, ◌++◌, map, length, Result, Ok, Err, drop, get_or, refl, sym, ap, ◌∙◌, subst, ⊎_elim, append_assoc, append-nil, arith}
use Rattle.std.specs.Prelude.{unsigned_abs, All, ◌↔◌, IfOk}
use Rattle.std.specs.List.{range_with_len, sum_by}
use Rattle.std.proofs.lemmas.Int.{ints}
use Rattle.std.proofs.lemmas.Bool.{cases_Bool, cases_lt, ltb-true, lt-ltb, false≢true, false_from_ne_true}
use Rattle.std.proofs.lemmas.List.{drop_all, drop_more, get_or_past, ext_get_or}
use Rattle.std.proofs.lemmas.List.FromFn.{length-map-range_with_len, get_or-map-range_with_len}
use Rattle.std.proofs.lemmas.List.Sums.{sum_by-cons}
use Rattle.list_sums.proofs.Products.{unsigned_abs-add}
use Rattle.weight_rows.specs.declared.entries.Entry.{Entry}
use Rattle.weight_rows.specs.Rows.{IsWeightVector, IsPricedBy, weight_in, price_of}
use Rattle.weight_rows.proofs.RowLawProofs.{weights_are_small}
use Rattle.demand_curve.specs.Demand.{IsRounding}
use Rattle.flow_orders.specs.Orders.{Order, IsOrder, terms_of}
use Rattle.flow_orders.specs.Excess.{price_for}
use Rattle.flow_orders.specs.Trades.{trades, residual}
use Rattle.flow_orders.specs.Outcomes.{residuals_of}
use Rattle.canonical_rule.proofs.Raised.{residuals_after}
use Rattle.canonical_rule.proofs.Choice.{residuals_follow}
use Rattle.canonical_rule.specs.Choice.{absolute_sum, left_by, raised, is_raised, chosen_from}
use Rattle.flow_orders.specs.Residuals.{residual_in, AreNear, HasEach, IsTradeAdded}
use Rattle.canonical_rule.specs.Canonical.{floor_at, is_fraction_at, floor_rates, rates_by_choice}
use Rattle.canonical_rule.proofs.ChoiceByEntries.{absolute_sum_by_entries}
use Rattle.canonical_rule.proofs.CanonicalIsAdmissible.{choices_are_roundings}
use Rattle.canonical_rule.proofs.CanonicalLaws.{chosen_rates_are_no_worse}
use Rattle.rate_rounding.specs.Private.{ceil_at, left_by_floors, is_raised_at, IsChosenBy, IsChosen}

-- ---- imbalances that agree on n assets lead to the same choices

sums_agree : (f g : ℕ → ℕ) (a n : ℕ) → ((k : ℕ) → k < a + n → f k ≡ g k) → sum_by f (range_with_len a n) ≡ sum_by g (range_with_len a n)
sums_agree f g a zero same = refl
sums_agree f g a (suc n) same =
    omega (arith, sum_by-cons f a (range_with_len (a + 1) n), sum_by-cons g a (range_with_len (a + 1) n), same a (omega arith), sums_agree f g (a + 1) n (λ k below. same k (omega (arith, below))))

-- the imbalances of n assets agree
abbrev Agree : ℕ → (ℕ → ℤ) → (ℕ → ℤ) → Type 0
Agree n r s = (asset : ℕ) → asset < n → r asset ≡ s asset

absolute_sums_agree : (n : ℕ) (r s : ℕ → ℤ) → Agree n r s → absolute_sum n r ≡ absolute_sum n s
absolute_sums_agree n r s same = sums_agree (λ k. unsigned_abs (r k)) (λ k. unsigned_abs (s k)) 0 n (λ k below. ap unsigned_abs (same k (omega (arith, below))))

module _ {X : Type 0} (n : ℕ) (weight : X → ℕ → ℤ) (floor : X → ℕ) (is_fraction : X → Bool) where
  raised_agree : (r s : ℕ → ℤ) (x : X) → Agree n r s → Agree n (raised weight r x) (raised weight s x)
  raised_agree r s x same asset inside = ap (λ z. z +ℤ weight x asset) (same asset inside)

  choice_agrees : (r s : ℕ → ℤ) (x : X) → Agree n r s → is_raised n weight floor is_fraction r x ≡ is_raised n weight floor is_fraction s x
  choice_agrees r s x same = rw (absolute_sums_agree n r s same, absolute_sums_agree n (raised weight r x) (raised weight s x) (raised_agree r s x same)) refl

  choices_agree : (r s : ℕ → ℤ) (xs : List X) → Agree n r s → chosen_from n weight floor is_fraction r xs ≡ chosen_from n weight floor is_fraction s xs
  choices_agree r s [] same = refl
  choices_agree r s (x ∷ xs) same =
      let one = choice_agrees r s x same in
      ⊎_elim
      (λ (up : is_raised n weight floor is_fraction s x ≡ true). rw (one, up) (ap (λ l. (floor x + 1) ∷ l) (choices_agree (raised weight r x) (raised weight s x) xs (raised_agree r s x same))))
      (λ (down : is_raised n weight floor is_fraction s x ≡ false). rw (one, down) (ap (λ l. floor x ∷ l) (choices_agree r s xs same)))
      (cases_Bool (is_raised n weight floor is_fraction s x))

  after_agrees : (r s : ℕ → ℤ) (xs : List X) → Agree n r s → Agree n (residuals_after n weight floor is_fraction r xs) (residuals_after n weight floor is_fraction s xs)
  after_agrees r s [] same = same
  after_agrees r s (x ∷ xs) same =
      let one = choice_agrees r s x same in
      ⊎_elim
      (λ (up : is_raised n weight floor is_fraction s x ≡ true). rw (one, up) (after_agrees (raised weight r x) (raised weight s x) xs (raised_agree r s x same)))
      (λ (down : is_raised n weight floor is_fraction s x ≡ false). rw (one, down) (after_agrees r s xs same))
      (cases_Bool (is_raised n weight floor is_fraction s x))

-- ---- one order

-- one unit more of a portfolio makes the sum of absolute imbalances smaller if it does so for its legs
pub lessens_where : (n : ℕ) (residuals : List ℤ) (row : List Entry) → IsWeightVector row → All (λ (e : Entry). e.asset < n) row
    → (sum_by (λ (e : Entry). unsigned_abs (residual_in residuals e.asset +ℤ e.weight)) row < sum_by (λ (e : Entry). unsigned_abs (residual_in residuals e.asset)) row)
    ↔ (ltb (absolute_sum n (λ asset. residual_in residuals asset +ℤ weight_in row asset)) (absolute_sum n (residual_in residuals)) ≡ true)
lessens_where n residuals row lawful there =
    let by = absolute_sum_by_entries n (residual_in residuals) row lawful there in (
      λ less. lt-ltb (absolute_sum n (λ asset. residual_in residuals asset +ℤ weight_in row asset)) (absolute_sum n (residual_in residuals)) (omega (arith, by, less)),
      λ test. let less = ltb-true (absolute_sum n (λ asset. residual_in residuals asset +ℤ weight_in row asset)) (absolute_sum n (residual_in residuals)) test in omega (arith, by, less),
    )

-- a weight vector that one list prices is priced by any of the same length
pub priced_alike : (row : List Entry) (a b : List ℤ) → length a ≡ length b → IsPricedBy row a → IsPricedBy row b
priced_alike row a b same priced k d inside = omega (arith, same, priced k d inside)

-- the rule by its two tests: whether the demand isn't whole, and whether one unit more lessens imbalances
module _ (prices residuals : List ℤ) (o : Order) (floor ceil : ℕ) (floor_is : floor ≡ floor_at prices o) (ceil_is : ceil ≡ ceil_at prices o) where
  pub raised_where : (less : Bool) → IsOrder o → IsPricedBy o.row prices → floor < ceil
      → (less ≡ true) ↔ (sum_by (λ (e : Entry). unsigned_abs (residual_in residuals e.asset +ℤ e.weight)) o.row < sum_by (λ (e : Entry). unsigned_abs (residual_in residuals e.asset)) o.row)
      → less ≡ is_raised_at prices residuals o
  raised_where less order priced fraction tests =
      let by = lessens_where (length prices) residuals o.row order.row priced in
      let is : is_fraction_at prices o ≡ true = rw (← floor_is, ← ceil_is) (lt-ltb floor ceil fraction) in
      rw is
      (⊎_elim
      (λ (yes : less ≡ true). yes ∙ sym (by.0 (tests.0 yes)))
      (λ (no : less ≡ false). no ∙ sym (false_from_ne_true _ (λ test. false≢true (sym no ∙ tests.1 (by.1 test)))))
      (cases_Bool less))

  pub stays_where : ceil ≤ floor → ltb floor ceil ≡ is_raised_at prices residuals o
  stays_where whole =
      let fails : ltb floor ceil ≡ false = false_from_ne_true (ltb floor ceil) (λ test. absurd (omega (arith, ltb-true floor ceil test, whole))) in
      let is : is_fraction_at prices o ≡ false = rw (← floor_is, ← ceil_is) fails in
      rw (fails, is) refl

-- ---- the loop over the orders

-- the choices for the remaining orders, given these imbalances
abbrev chosen_on : List ℤ → List ℤ → List Order → List ℕ
chosen_on prices residuals orders = chosen_from (length prices) (λ o asset. weight_in o.row asset) (floor_at prices) (is_fraction_at prices) (residual_in residuals) orders

-- the imbalances after these choices
abbrev left_after : List ℤ → (ℕ → ℤ) → List Order → ℕ → ℤ
left_after prices residuals orders = residuals_after (length prices) (λ (o : Order) asset. weight_in o.row asset) (floor_at prices) (is_fraction_at prices) residuals orders

-- the rates of the first i orders are chosen, and the imbalances are those after these choices
pub record AreChosen (prices : List ℤ) (orders : List Order) (i : ℕ) (rates : List ℕ) (residuals : List ℤ) : Type 0 where
  pub chosen : rates_by_choice (length prices) orders prices ≡ rates ++ chosen_on prices residuals (drop i orders)
  pub after : Agree (length prices) (left_after prices (left_by_floors orders prices) orders) (left_after prices (residual_in residuals) (drop i orders))
  pub count : length residuals ≡ length prices
  pub near : AreNear (2 ^ 50 + i * 2 ^ 12) residuals

pub none_chosen : (prices : List ℤ) (orders : List Order) (rates : List ℕ) (residuals : List ℤ) → rates ≡ []
    → HasEach (length prices) (left_by_floors orders prices) residuals → AreNear (2 ^ 50) residuals → AreChosen prices orders 0 rates residuals
none_chosen prices orders rates residuals none left near =
    let agree : Agree (length prices) (left_by_floors orders prices) (residual_in residuals) = λ a inside. sym (left.each a inside) in
    record {
      chosen = rw none (choices_agree (length prices) (λ (o : Order) asset. weight_in o.row asset) (floor_at prices) (is_fraction_at prices) (left_by_floors orders prices) (residual_in residuals) orders agree);
      after = after_agrees (length prices) (λ (o : Order) asset. weight_in o.row asset) (floor_at prices) (is_fraction_at prices) (left_by_floors orders prices) (residual_in residuals) orders agree;
      count = left.count;
      near = λ a. omega (arith, near a);
    }

weight_is_small : (o : Order) → IsOrder o → (asset : ℕ) → unsigned_abs (weight_in o.row asset) ≤ 4096
weight_is_small o order asset = weights_are_small o.row asset order.row

module _ (prices : List ℤ) (orders : List Order) (i : ℕ) (o : Order) (rates : List ℕ) (rate : ℕ) (now new : List ℤ) (inside : i < length orders) (here : o ≡ get_or orders i o) (order : IsOrder o) where
  next_is : drop i orders ≡ o ∷ drop (i + 1) orders
  next_is = drop_more orders i o inside ∙ ap (λ x. x ∷ drop (i + 1) orders) (sym here)

  put : AreChosen prices orders i rates now → chosen_on prices now (drop i orders) ≡ rate ∷ chosen_on prices new (drop (i + 1) orders)
      → rates_by_choice (length prices) orders prices ≡ (rates ++ rate ∷ []) ++ chosen_on prices new (drop (i + 1) orders)
  put before turn = before.chosen ∙ ap (λ l. rates ++ l) turn ∙ sym (append_assoc rates (rate ∷ []) (chosen_on prices new (drop (i + 1) orders)))

  up_near : AreChosen prices orders i rates now → IsTradeAdded o.row 1 now new → AreNear (2 ^ 50 + (i + 1) * 2 ^ 12) new
  up_near before added a =
      ⊎_elim
      (λ there.
      let grown : price_of new a ≡ price_of now a +ℤ weight_in o.row a *ℤ pos 1 = added.each a there in
      let grown_by : price_of new a ≡ price_of now a +ℤ weight_in o.row a = omega (arith, ints, grown) in
      rw grown_by (omega (arith, unsigned_abs-add (price_of now a) (weight_in o.row a), before.near a, weight_is_small o order a)))
      (λ past. rw (get_or_past new a (pos 0) (omega (arith, past, added.count))) (omega arith))
      (cases_lt a (length now))

  one_more : (b : Bool) → is_raised_at prices now o ≡ b → IsChosenBy b prices o rate now new → AreChosen prices orders i rates now → AreChosen prices orders (i + 1) (rates ++ rate ∷ []) new
  one_more true up turn before =
      let agree : Agree (length prices) (λ asset. residual_in now asset +ℤ weight_in o.row asset) (residual_in new) =
      λ a there. let grown = turn.1.each a (omega (arith, there, before.count)) in omega (arith, ints, grown) in
      let next = choices_agree (length prices) (λ (o : Order) asset. weight_in o.row asset) (floor_at prices) (is_fraction_at prices) (λ asset. residual_in now asset +ℤ weight_in o.row asset) (residual_in new) (drop (i + 1) orders) agree in
      let left = after_agrees (length prices) (λ (o : Order) asset. weight_in o.row asset) (floor_at prices) (is_fraction_at prices) (λ asset. residual_in now asset +ℤ weight_in o.row asset) (residual_in new) (drop (i + 1) orders) agree in
      let after : left_after prices (residual_in now) (drop i orders) ≡ left_after prices (λ asset. residual_in now asset +ℤ weight_in o.row asset) (drop (i + 1) orders) = ap (left_after prices (residual_in now)) next_is ∙ rw up refl in
      record {
        chosen = put before (ap (chosen_on prices now) next_is ∙ rw up (rw turn.0 (ap (λ l. (floor_at prices o + 1) ∷ l) next)));
        after = λ a there. before.after a there ∙ ap (λ (f : ℕ → ℤ). f a) after ∙ left a there;
        count = turn.1.count ∙ before.count;
        near = up_near before turn.1;
      }
  one_more false down turn before =
      let after : left_after prices (residual_in now) (drop i orders) ≡ left_after prices (residual_in now) (drop (i + 1) orders) = ap (left_after prices (residual_in now)) next_is ∙ rw down refl in
      record {
        chosen = put before (ap (chosen_on prices now) next_is ∙ rw (down, turn.0, turn.1) refl);
        after = λ a there. before.after a there ∙ ap (λ (f : ℕ → ℤ). f a) after ∙ ap (λ l. left_after prices (residual_in l) (drop (i + 1) orders) a) (sym turn.1);
        count = ap length turn.1 ∙ before.count;
        near = λ a. rw turn.1 (omega (arith, before.near a));
      }

  pub one_more_chosen : IsChosen prices o rate now new → AreChosen prices orders i rates now → AreChosen prices orders (i + 1) (rates ++ rate ∷ []) new
  one_more_chosen turn before = one_more (is_raised_at prices now o) refl turn before

-- the imbalances at rates are those of the trades
residuals_are : (orders : List Order) (rates : List ℕ) (asset : ℕ) → left_by (λ o asset. weight_in o.row asset) orders rates asset ≡ residual (trades orders rates) asset
residuals_are [] rates asset = refl
residuals_are (o ∷ orders) [] asset = refl
residuals_are (o ∷ orders) (x ∷ rates) asset = ap (λ y. weight_in o.row asset *ℤ pos x +ℤ y) (residuals_are orders rates asset)

module _ (prices : List ℤ) (orders : List Order) (i : ℕ) (rates : List ℕ) (residuals : List ℤ) (all : length orders ≤ i) (before : AreChosen prices orders i rates residuals) where
  none_left : drop i orders ≡ []
  none_left = drop_all i orders all

  pub all_chosen : rates ≡ rates_by_choice (length prices) orders prices
  all_chosen = sym (before.chosen ∙ ap (λ l. rates ++ chosen_on prices residuals l) none_left ∙ append-nil rates)

  left_is : (asset : ℕ) → asset < length prices → residual_in residuals asset ≡ residual (trades orders rates) asset
  left_is asset there =
      let follow = residuals_follow (length prices) (λ (o : Order) asset. weight_in o.row asset) (floor_at prices) (is_fraction_at prices) (left_by_floors orders prices) orders asset in
      let chosen : left_by (λ (o : Order) asset. weight_in o.row asset) orders (rates_by_choice (length prices) orders prices) asset ≡ residual (trades orders rates) asset =
      ap (λ l. left_by (λ (o : Order) asset. weight_in o.row asset) orders l asset) (sym all_chosen) ∙ residuals_are orders rates asset in
      let end : left_after prices (residual_in residuals) (drop i orders) asset ≡ residual_in residuals asset = ap (λ l. left_after prices (residual_in residuals) l asset) none_left in
      omega (arith, ints, before.after asset there, follow, chosen, end)

  pub left_over : residuals ≡ residuals_of (length prices) (trades orders rates)
  left_over =
      let n = length prices in
      ext_get_or (pos 0) residuals (map (residual (trades orders rates)) (range_with_len 0 n)) (before.count ∙ sym (length-map-range_with_len (residual (trades orders rates)) 0 n))
      (λ k inside. let within : k < n = omega (arith, inside, before.count) in left_is k within ∙ sym (get_or-map-range_with_len (residual (trades orders rates)) 0 n k k (pos 0) within (omega arith)))

-- ---- what holds of chosen rates

module _ (orders : List Order) (prices : List ℤ) (rates : List ℕ) (chosen : rates ≡ rates_by_choice (length prices) orders prices) where
  pub one_rate_each : All IsOrder orders → length rates ≡ length orders
  one_rate_each each = ap length chosen ∙ (choices_are_roundings orders each (length prices) prices).count

  pub each_is_rounding : All IsOrder orders → All (λ t. IsRounding (terms_of t.order) t.traded (price_for prices t.order)) (trades orders rates)
  each_is_rounding each = subst (λ xs. All (λ t. IsRounding (terms_of t.order) t.traded (price_for prices t.order)) (trades orders xs)) (sym chosen) (choices_are_roundings orders each (length prices) prices).each

  pub no_more_is_left : absolute_sum (length prices) (residual (trades orders rates)) ≤ absolute_sum (length prices) (residual (trades orders (floor_rates orders prices)))
  no_more_is_left = subst (λ xs. absolute_sum (length prices) (residual (trades orders xs)) ≤ absolute_sum (length prices) (residual (trades orders (floor_rates orders prices)))) (sym chosen) (chosen_rates_are_no_worse (length prices) orders prices)

-- if a third fact follows from two of every value, it holds of a result of which the two hold
pub on_both : {T E : Type 0} {P Q R : T → Type 0} → ((x : T) → P x → Q x → R x) → (result : Result T E) → IfOk result P → IfOk result Q → IfOk result R
on_both follows (Ok x) one other = follows x one other
on_both follows (Err e) one other = tt
