-- What an order that is asked for needs of its account, leg by leg; and a cancelled order.
use Rattle.std.proofs.Common.{◌≡◌, ℕ, ◌+◌, ◌-◌, ◌*◌, ◌<◌, ◌↔◌, inl, inr, Bool, true, false, List, [], ◌∷◌, ◌++◌, ℤ, pos, negsuc, ◌≤ℤ◌, Option, Some, None, IsTrue, IsFalse, length, ⊎_elim, refl, sym, ap, ◌∙◌, subst, arith}
use Rattle.std.specs.Prelude.{slice_get, slice_index_or, All, IfSome}
use Rattle.std.proofs.lemmas.Int.{ints}
use Rattle.std.proofs.lemmas.Bool.{cases_lt, false≢true}
use Rattle.std.proofs.lemmas.List.{length-map, get_or-map}
use Rattle.std.proofs.lemmas.Option.{slice_get_within, get_or_from_slice_get}
use Rattle.weight_rows.specs.declared.entries.Entry.{Entry}
use Rattle.weight_rows.specs.Rows.{IsWeightVector, assets_of, weight_in}
use Rattle.weight_rows.proofs.RowLawProofs.{entries_give_weights, named_assets_weigh}
use Rattle.flow_accounts.specs.Balances.{IsAccount, IsAsset}
use Rattle.wire_records.specs.Commands.{Request, Place, CancelOrder, Plain}
use Rattle.wire_records.specs.declared.reply.Reply.TheVariants.{Refused, Order as OrderPlaced}
use Rattle.wire_records.specs.declared.reply.Refusal.{Refusal}
use Rattle.wire_records.specs.declared.reply.Refusal.TheVariants.{NoAccount, NoOrder, BadLast}
use Rattle.demand_curve.specs.Numbers.{or_zero}
use Rattle.flow_orders.specs.Orders.{Order, most_orders, price_of_ticks, sold}
use Rattle.flow_orders.specs.Outcomes.{BatchRule}
use Rattle.order_book.specs.Book.{Book, HasOrder, without}
use Rattle.market_rules.specs.Market.{Market, IsConsistent, usable_balance}
use Rattle.market_rules.proofs.ByKind.{affords}
use Rattle.wire_records.specs.Limits.{limits_of}
use Rattle.market_rules.proofs.VersionLimits.{orders_within}
use Rattle.market_rules.specs.Step.{◌unless◌else◌, FirstRefusal, Serves, placed, IsAffordable}
use Rattle.market_core.specs.Private.{cancel_reply, RefusesNumbers, RefusesRow, HasRightNumbers, no_other, IsFreeFor}
use Rattle.market_rules.proofs.Accepted.{past_when, past_unless, not_least}

-- ---- leg by leg

-- a leg that was read is within the weight vector
pub read_within : (row : List Entry) (place : ℕ) (e : Entry) → Some e ≡ slice_get row place → place < length row
read_within row place e read = slice_get_within row place e (sym read)

-- what holds of the legs so far and of the one that was read holds of one more
pub one_more : (P : Entry → Type 0) (row : List Entry) (place : ℕ) (e : Entry) → Some e ≡ slice_get row place
    → ((k : ℕ) (d : Entry) → k < place → P (slice_index_or row k d)) → P e
    → (k : ℕ) (d : Entry) → k < place + 1 → P (slice_index_or row k d)
one_more P row place e read before here k d below =
    ⊎_elim
    (λ lower. before k d lower)
    (λ past.
    let same : place ≡ k = omega (arith, past, below) in
    subst (λ n. P (slice_index_or row n d)) same (subst P (sym (get_or_from_slice_get row place e d (sym read))) here))
    (cases_lt k place)

-- if the leg that was read lacks a property, not all legs have it
pub one_lacks : (P : Entry → Type 0) (row : List Entry) (place : ℕ) (e : Entry) → Some e ≡ slice_get row place → (P e → ⊥) → All P row → ⊥
one_lacks P row place e read lacks all =
    lacks (subst P (get_or_from_slice_get row place e e (sym read)) (all place e (read_within row place e read)))

-- ---- what is needed

length_assets : (row : List Entry) → length (assets_of row) ≡ length row
length_assets row = length-map row (λ (e : Entry). e.asset)

asset_at : (row : List Entry) (k : ℕ) (d : Entry) (asset : ℕ) → k < length row → slice_index_or (assets_of row) k asset ≡ (slice_index_or row k d).asset
asset_at row k d asset inside = get_or-map (λ (e : Entry). e.asset) row k d asset inside

negative_is_not_none : (n : ℕ) → negsuc n ≡ pos 0 → ⊥
negative_is_not_none n is = omega (arith, ints, is)

-- the units that each leg sells are free exactly if those of each asset are
pub free_by_entries : (m : Market) (account cap : ℕ) (row : List Entry) → IsWeightVector row → All (λ e. IsAsset m.balances e.asset) row
    → ((asset : ℕ) → IsAsset m.balances asset → pos 0 ≤ℤ usable_balance m account (Some asset))
    → All (λ e. pos (sold e.weight * cap) ≤ℤ usable_balance m account (Some e.asset)) row
    → (asset : ℕ) → IsAsset m.balances asset → pos (sold (weight_in row asset) * cap) ≤ℤ usable_balance m account (Some asset)
free_by_entries m account cap row lawful assets some each asset there = by_weight (weight_in row asset) refl
  where
    by_weight : (w : ℤ) → weight_in row asset ≡ w → pos (sold w * cap) ≤ℤ usable_balance m account (Some asset)
    by_weight (pos n) is = omega (arith, ints, some asset there)
    by_weight (negsuc n) is =
        let named = (named_assets_weigh row asset lawful).0 (λ none. absurd (negative_is_not_none n (sym is ∙ none))) in
        let d : Entry = record { asset = asset; weight = pos 0 } in
        let inside : named.0 < length row = omega (arith, named.1, length_assets row) in
        let is_asset : (slice_index_or row named.0 d).asset ≡ asset = sym (asset_at row named.0 d asset inside) ∙ named.2 in
        let here = each named.0 d inside in
        let weight : (slice_index_or row named.0 d).weight ≡ negsuc n = sym (entries_give_weights row lawful named.0 d inside) ∙ ap (weight_in row) is_asset ∙ is in
        subst (λ a. pos (sold (negsuc n) * cap) ≤ℤ usable_balance m account (Some a)) is_asset
        (subst (λ w. pos (sold w * cap) ≤ℤ usable_balance m account (Some (slice_index_or row named.0 d).asset)) weight here)

pub entries_are_free : (m : Market) (account cap : ℕ) (row : List Entry) → IsWeightVector row → All (λ e. IsAsset m.balances e.asset) row
    → ((asset : ℕ) → IsAsset m.balances asset → pos (sold (weight_in row asset) * cap) ≤ℤ usable_balance m account (Some asset))
    → All (λ e. pos (sold e.weight * cap) ≤ℤ usable_balance m account (Some e.asset)) row
entries_are_free m account cap row lawful assets free k d inside =
    subst (λ w. pos (sold w * cap) ≤ℤ usable_balance m account (Some (slice_index_or row k d).asset)) (entries_give_weights row lawful k d inside)
    (free (slice_index_or row k d).asset (assets k d inside))

-- what an order needs is free exactly if its money and the units of each leg are
pub affordable_is : (m : Market) (r : Request) (free : Bool) → IsConsistent m → IsAccount m.balances r.account → IsWeightVector r.row → All (λ e. IsAsset m.balances e.asset) r.row
    → pos (or_zero (price_of_ticks r.high) * r.cap) ≤ℤ usable_balance m r.account None
    → (IsTrue free ↔ All (λ e. pos (sold e.weight * r.cap) ≤ℤ usable_balance m r.account (Some e.asset)) r.row)
    → (IsTrue free ↔ IsFreeFor m r)
affordable_is m r free consistent account lawful assets money is =
    let whole : r.cap ≡ r.cap - 0 = omega arith in
    let some : (asset : ℕ) → IsAsset m.balances asset → pos 0 ≤ℤ usable_balance m r.account (Some asset) =
    λ asset there. omega (arith, ints, consistent.covered r.account (Some asset) account there) in (
      λ yes. affords m (placed m None r) (subst (λ n. pos (or_zero (price_of_ticks r.high) * n) ≤ℤ usable_balance m r.account None) whole money)
          (λ asset there. subst (λ n. pos (sold (weight_in r.row asset) * n) ≤ℤ usable_balance m r.account (Some asset)) whole
          (free_by_entries m r.account r.cap r.row lawful assets some (is.0 yes) asset there)),
      λ affordable. is.1 (entries_are_free m r.account r.cap r.row lawful assets
          (λ asset there. subst (λ n. pos (sold (weight_in r.row asset) * n) ≤ℤ usable_balance m r.account (Some asset)) (sym whole) (affordable (Some asset) there))),
    )

-- the money that it needs is free then
pub free_money_is : (m : Market) (r : Request) → IsFreeFor m r → pos (or_zero (price_of_ticks r.high) * r.cap) ≤ℤ usable_balance m r.account None
free_money_is m r free =
    let whole : r.cap ≡ r.cap - 0 = omega arith in
    subst (λ n. pos (or_zero (price_of_ticks r.high) * n) ≤ℤ usable_balance m r.account None) (sym whole) (free None tt)

-- what is free for an order without a last batch is free for one with any last batch
pub free_until : (m : Market) (last : Option ℕ) (r : Request) → IsFreeFor m r → IsAffordable m (placed m last r)
free_until m last r free = affords m (placed m last r) (free None tt) (λ asset there. free (Some asset) there)

pub free_from : (m : Market) (last : Option ℕ) (r : Request) → IsAffordable m (placed m last r) → IsFreeFor m r
free_from m last r free = affords m (placed m None r) (free None tt) (λ asset there. free (Some asset) there)

-- ---- refusals in parts

-- a refusal for the numbers is the first one, whatever the others are
pub refuses_numbers : (m : Market) (r : Request) (others : Option Refusal → Type 0) (first : Option Refusal) → RefusesNumbers m r no_other first → RefusesNumbers m r others first
refuses_numbers m r others first (inl here) = inl here
refuses_numbers m r others first (inr (account, inl here)) = inr (account, inl here)
refuses_numbers m r others first (inr (account, inr (limits, inl here))) = inr (account, inr (limits, inl here))
refuses_numbers m r others first (inr (account, inr (limits, inr (rate, inl here)))) = inr (account, inr (limits, inr (rate, inl here)))
refuses_numbers m r others first (inr (account, inr (limits, inr (rate, inr (cap, none))))) = absurd none

-- if account and numbers are valid, the others decide
pub passes_numbers : (m : Market) (r : Request) (others : Option Refusal → Type 0) (first : Option Refusal) → HasRightNumbers m r → others first → RefusesNumbers m r others first
passes_numbers m r others first right other = inr (right.account, inr (right.limits, inr (right.rate, inr (right.cap, other))))

-- a refusal for the weight vector, the full book or the needs doesn't depend on the last batch
refuses_row : (m : Market) (last : Option ℕ) (r : Request) (first : Option Refusal) → RefusesRow m (placed m None r) first → RefusesRow m (placed m last r) first
refuses_row m last r first (inl here) = inl here
refuses_row m last r first (inr (row, inl here)) = inr (row, inl here)
refuses_row m last r first (inr (row, inr (assets, inl here))) = inr (row, inr (assets, inl here))
refuses_row m last r first (inr (row, inr (assets, inr (few, inl (dear, is))))) = inr (row, inr (assets, inr (few, inl ((λ free. dear (free_from m last r free)), is))))
refuses_row m last r first (inr (row, inr (assets, inr (few, inr (free, none))))) = inr (row, inr (assets, inr (few, inr (free_until m last r free, none))))

-- the refusals that decide once account and numbers are valid
abbrev pub AfterNumbers : Market → Option ℕ → Request → Option Refusal → Type 0
AfterNumbers m last r = BadLast unless IfSome last (λ batch. m.batches < batch) else RefusesRow m (placed m last r)

-- the first refusal of an order, by its parts
pub first_of_place : (m : Market) (last : Option ℕ) (r : Request) (first : Option Refusal) → HasRightNumbers m r → IfSome last (λ batch. m.batches < batch) → RefusesRow m (placed m None r) first → FirstRefusal m (Place last r) first
first_of_place m last r first right later row = passes_numbers m r (AfterNumbers m last r) first right (inr (later, refuses_row m last r first row))

pub too_late : (m : Market) (last : Option ℕ) (r : Request) → HasRightNumbers m r → ¬ IfSome last (λ batch. m.batches < batch) → FirstRefusal m (Place last r) (Some BadLast)
too_late m last r right over = passes_numbers m r (AfterNumbers m last r) (Some BadLast) right (inl (over, refl))

-- if no refusal holds, there is room for one more order
row_is_few : (m : Market) (o : Order) → RefusesRow m o None → length m.orders < most_orders
row_is_few m o first =
    let row = past_unless first in
    let assets = past_unless row.1 in
    omega (arith, not_least (limits_of m.version).orders (length m.orders) (past_when assets.1).0, orders_within m.version)

pub accepted_is_few : (m : Market) (last : Option ℕ) (r : Request) → FirstRefusal m (Place last r) None → length m.orders < most_orders
accepted_is_few m last r first =
    let account = past_unless first in
    let limits = past_unless account.1 in
    let rate = past_unless limits.1 in
    let cap = past_unless rate.1 in
    row_is_few m (placed m last r) (past_unless cap.1).1

-- the order is added
pub serves-place : (Rule : BatchRule) (m : Market) (last : Option ℕ) (r : Request) (o : Order) (orders : List Order) → FirstRefusal m (Place last r) None → o ≡ placed m last r → orders ≡ m.orders ++ o ∷ []
    → Serves Rule m (Place last r) (Plain (OrderPlaced m.next_order)) (record m { orders = orders; next_order = m.next_order + 1 })
serves-place Rule m last r o orders first is made = record {
  first = None;
  refused = first;
  answered = (refl, ap (λ os. record m { orders = os; next_order = m.next_order + 1 }) (made ∙ ap (λ x. m.orders ++ x ∷ []) is));
}

-- ---- cancels

module _ (Rule : BatchRule) (m : Market) (account number : ℕ) where
  -- there is no such account
  pub refuses-no_account : (new : Market) → (IsAccount m.balances account → ⊥) → new ≡ m → Serves Rule m (CancelOrder account number) (Plain (Refused NoAccount)) new
  refuses-no_account new none same = record { first = Some NoAccount; refused = inl (none, refl); answered = (refl, same) }

  -- the order is cancelled, or there is no such order
  pub serves-cancel : (cancelled : Bool) (old new : Book) → IsAccount m.balances account
      → (IsTrue cancelled ↔ HasOrder old.orders account number) → (IsFalse cancelled → new ≡ old) → (IsTrue cancelled → new.orders ≡ without old.orders number)
      → Serves Rule (record m { orders = old.orders }) (CancelOrder account number) (Plain (cancel_reply cancelled)) (record m { orders = new.orders })
  serves-cancel true old new there is stays made =
      record { first = None; refused = inr (there, inr (is.0 refl, refl)); answered = (refl, ap (λ os. record m { orders = os }) (made refl)) }
  serves-cancel false old new there is stays made =
      record {
        first = Some NoOrder;
        refused = inr (there, inl (λ has. false≢true (is.1 has), refl));
        answered = (refl, ap (λ (b : Book). record m { orders = b.orders }) (stays refl));
      }
