-- After a batch is settled each account still covers what its orders need.
use Rattle.std.proofs.Common.{◌≡◌, ℕ, suc, zero, ◌+◌, ◌-◌, ◌*◌, ◌≤◌, ◌<◌, Bool, true, false, cond, eqb, ℤ, pos, negsuc, ◌+ℤ◌, ◌-ℤ◌, ◌*ℤ◌, ◌≤ℤ◌, ◌<ℤ◌, List, [], ◌∷◌, ◌++◌, map, length, ap, refl, ⊎_elim, arith, Some, None}
use Rattle.std.specs.Prelude.{All, slice_index_or}
use Rattle.std.specs.List.{filter}
use Rattle.std.proofs.Math.Nat.{mul-le-mul_left}
use Rattle.std.proofs.Math.IntN.{zero-*ℤ}
use Rattle.std.proofs.lemmas.Int.{ints, by_lt_z}
use Rattle.std.proofs.lemmas.Bool.{cases_Bool, ltb-false}
use Rattle.std.proofs.lemmas.List.{append-nil}
use borrow.Author.Differences.{up, down}
use Rattle.weight_rows.specs.Rows.{weight_in, portfolio_price}
use Rattle.demand_curve.specs.Demand.{IsWithinLimits, IsRounding}
use Rattle.demand_curve.specs.Numbers.{or_zero}
use Rattle.demand_curve.proofs.RoundingLaws.{rounding_is_within_room, rounding_is_exact_at_cuts}
use Rattle.flow_accounts.specs.Balances.{Account, Credit, Balances, IsAccount, IsAsset, no_credit, credit_in, money_with_credit, units_with_credit}
use Rattle.flow_orders.specs.Orders.{Order, remaining_quantity, terms_of, money_need, sold, unit_need, own_sum, needed_money, needed_units}
use Rattle.flow_orders.specs.Trades.{Trade, paid, received, trader, after_fill, staying}
use Rattle.fill_caps.specs.Settles.{Settles}
use Rattle.flow_orders.proofs.TradeFacts.{before_fills, after_fills, IsAllowed, is_live}
use Rattle.fill_caps.specs.Covers.{CoversNeeds}
use Rattle.list_sums.proofs.SumLemmas.{int_sum_by-filter}
use Rattle.flow_orders.proofs.OwnSums.{own_sum-append}

-- a rounding of the demand is allowed
pub rounding_is_allowed : (prices : List ℤ) (t : Trade) → IsWithinLimits (terms_of t.order) → IsRounding (terms_of t.order) t.traded (portfolio_price t.order.row prices) → IsAllowed prices t
rounding_is_allowed prices t limits rounding =
    let price = portfolio_price t.order.row prices in
    record {
      within = let room = rounding_is_within_room (terms_of t.order) limits price t.traded rounding in omega (arith, room);
      below_high = λ some. by_lt_z price t.order.high (λ below. below) (λ above. let none = (rounding_is_exact_at_cuts (terms_of t.order) limits price t.traded rounding).none above in absurd (omega (arith, none, some)));
    }

or_zero_is : (z : ℤ) → or_zero z ≡ up z - down z
or_zero_is (pos n) = omega arith
or_zero_is (negsuc n) = omega arith

-- what x units cost below a limit is at most what they cost at the limit, or at 0 if that is negative
pub cost_at_most : (x : ℕ) (price high : ℤ) → (0 < x → price <ℤ high) → (pos x *ℤ price) ≤ℤ pos (or_zero high * x)
cost_at_most zero price high below = omega (arith, ints, zero-*ℤ price)
cost_at_most (suc n) price high below =
    let under : up price ≤ down price + or_zero high = omega (arith, ints, below (omega arith), or_zero_is high) in
    omega (arith, ints, mul-le-mul_left (suc n) under)

-- what an order still needs of money, with what it paid, is at most what it needed
pub money_need_falls : (prices : List ℤ) (t : Trade) → IsAllowed prices t → pos (money_need (after_fill t)) ≤ℤ (pos (money_need (t.order)) -ℤ paid prices t)
money_need_falls prices t allowed =
    let left : remaining_quantity t.order ≡ remaining_quantity (after_fill t) + t.traded = omega (arith, allowed.within) in
    omega (arith, ints, ap (λ y. or_zero t.order.high * y) left, cost_at_most t.traded (portfolio_price t.order.row prices) t.order.high allowed.below_high)

unit_step : (w : ℤ) (x left now : ℕ) → left ≡ now + x → pos (sold w * now) ≤ℤ (pos (sold w * left) +ℤ w *ℤ pos x)
unit_step (pos n) x left now e = omega (arith, ints)
unit_step (negsuc n) x left now e = omega (arith, ints, ap (λ y. (n + 1) * y) e)

-- what an order still needs of an asset is at most what it needed, with what it received
pub unit_need_falls : (prices : List ℤ) (asset : ℕ) (t : Trade) → IsAllowed prices t → pos (unit_need asset (after_fill t)) ≤ℤ (pos (unit_need asset (t.order)) +ℤ received asset t)
unit_need_falls prices asset t allowed =
    unit_step (weight_in t.order.row asset) t.traded (remaining_quantity t.order) (remaining_quantity (after_fill t)) (omega (arith, allowed.within))

module _ {X : Type 0} (whose : X → ℕ) (f g h : X → ℤ) where
  -- an account's own sum of terms that are at most a difference, or a sum
  pub own_sum-le_sub : (account : ℕ) (xs : List X) → All (λ x. f x ≤ℤ (g x -ℤ h x)) xs → own_sum whose account f xs ≤ℤ (own_sum whose account g xs -ℤ own_sum whose account h xs)
  own_sum-le_sub account [] all = omega (arith, ints)
  own_sum-le_sub account (x ∷ xs) all =
      let here : f x ≤ℤ (g x -ℤ h x) = all 0 x (omega arith) in
      let rest = own_sum-le_sub account xs (λ k d inside. all (suc k) d (omega (arith, inside))) in
      ⊎_elim
      (λ own. rw own (omega (arith, ints, here, rest)))
      (λ other. rw other (omega (arith, ints, rest)))
      (cases_Bool (eqb (whose x) account))

  pub own_sum-le_add : (account : ℕ) (xs : List X) → All (λ x. f x ≤ℤ (g x +ℤ h x)) xs → own_sum whose account f xs ≤ℤ (own_sum whose account g xs +ℤ own_sum whose account h xs)
  own_sum-le_add account [] all = omega (arith, ints)
  own_sum-le_add account (x ∷ xs) all =
      let here : f x ≤ℤ (g x +ℤ h x) = all 0 x (omega arith) in
      let rest = own_sum-le_add account xs (λ k d inside. all (suc k) d (omega (arith, inside))) in
      ⊎_elim
      (λ own. rw own (omega (arith, ints, here, rest)))
      (λ other. rw other (omega (arith, ints, rest)))
      (cases_Bool (eqb (whose x) account))

owner : Order → ℕ
owner o = o.account

own_of_map : (need : Order → ℤ) (g : Trade → Order) → ((t : Trade) → (g t).account ≡ trader t) → (account : ℕ) (ts : List Trade) → own_sum (λ o. o.account) account need (map g ts) ≡ own_sum trader account (λ t. need (g t)) ts
own_of_map need g same account [] = refl
own_of_map need g same account (t ∷ ts) = rw (same t) (omega (arith, ints, own_of_map need g same account ts))

-- the credits of an account among all credit lines
abbrev money_credit_at : List Credit → ℕ → ℕ
money_credit_at credits account = (slice_index_or credits (account - 1) (no_credit 0)).ticks

abbrev unit_credit_at : List Credit → ℕ → ℕ → ℕ
unit_credit_at credits account asset = credit_in (slice_index_or credits (account - 1) (no_credit 0)) (Some asset)

-- accounts cover their needs of money and of each asset
pub covers_both : (b : Balances) (orders : List Order) → ((account : ℕ) → IsAccount b account → needed_money orders account ≤ℤ money_with_credit b account)
    → ((account asset : ℕ) → IsAccount b account → IsAsset b asset → needed_units orders account asset ≤ℤ units_with_credit b account asset) → CoversNeeds b orders
covers_both b orders money units account None there is_kind = money account there
covers_both b orders money units account (Some asset) there is_asset = units account asset there is_asset

-- after any first part of the trades is settled, accounts cover what those need after and the others before their fills
pub needs_kept : (prices : List ℤ) (ts : List Trade) (others : List Order) (old new : Balances) (exchange_old exchange_new : Account) → Settles prices ts old new exchange_old exchange_new → All (IsAllowed prices) ts → CoversNeeds old (before_fills ts ++ others) → CoversNeeds new (after_fills ts ++ others)
needs_kept prices ts others old new exchange_old exchange_new settles allowed covers =
    covers_both new (after_fills ts ++ others)
    (λ account there.
    let there_before : IsAccount old account = (there.0, omega (arith, there.1, settles.accounts)) in
    let before = covers account None there_before tt in
    let need : Order → ℤ = λ o. pos (money_need o) in
    let falls = own_sum-le_sub trader (λ t. need (after_fill t)) (λ t. need (t.order)) (paid prices) account ts (λ k d inside. money_need_falls prices (slice_index_or ts k d) (allowed k d inside)) in
    omega (
      arith,
      ints,
      falls,
      before,
      settles.money account there_before,
      ap (λ (l : List Credit). money_credit_at l account) settles.credits,
      own_sum-append (λ (o : Order). o.account) need account (before_fills ts) others,
      own_sum-append (λ (o : Order). o.account) need account (after_fills ts) others,
      own_of_map need (λ t. t.order) (λ t. refl) account ts,
      own_of_map need after_fill (λ t. refl) account ts,
    ))
    (λ account asset there is_asset.
    let there_before : IsAccount old account = (there.0, omega (arith, there.1, settles.accounts)) in
    let asset_before : IsAsset old asset = omega (arith, is_asset, ap (λ (t : Account). length t.units) settles.totals) in
    let before = covers account (Some asset) there_before asset_before in
    let need : Order → ℤ = λ o. pos (unit_need asset o) in
    let falls = own_sum-le_add trader (λ t. need (after_fill t)) (λ t. need (t.order)) (received asset) account ts (λ k d inside. unit_need_falls prices asset (slice_index_or ts k d) (allowed k d inside)) in
    omega (
      arith,
      ints,
      falls,
      before,
      settles.units account asset there_before asset_before,
      ap (λ (l : List Credit). unit_credit_at l account asset) settles.credits,
      own_sum-append (λ (o : Order). o.account) need account (before_fills ts) others,
      own_sum-append (λ (o : Order). o.account) need account (after_fills ts) others,
      own_of_map need (λ t. t.order) (λ t. refl) account ts,
      own_of_map need after_fill (λ t. refl) account ts,
    ))

cond_zero : (own : Bool) (m : ℕ) → m ≡ 0 → cond own (pos m) (pos 0) ≡ pos 0
cond_zero true m none = ap pos none
cond_zero false m none = refl

-- an order at its cap needs nothing
full_needs_nothing : (account n : ℕ) (o : Order) → is_live o ≡ false → cond (eqb (o.account) account) (pos (n * remaining_quantity o)) (pos 0) ≡ pos 0
full_needs_nothing account n o full =
    let none : remaining_quantity o ≡ 0 = omega (arith, ltb-false o.filled o.cap full) in
    cond_zero (eqb (o.account) account) (n * remaining_quantity o) (omega (arith, ap (λ y. n * y) none))

-- accounts also cover the needs of the live orders alone
pub needs_of_live : (b : Balances) (orders : List Order) → CoversNeeds b orders → CoversNeeds b (filter is_live orders)
needs_of_live b orders covers =
    covers_both b (filter is_live orders)
    (λ account there. rw (int_sum_by-filter (λ o. cond (eqb (o.account) account) (pos (money_need o)) (pos 0)) is_live orders (λ o full. full_needs_nothing account (or_zero o.high) o full)) (covers account None there tt))
    (λ account asset there is_asset. rw (int_sum_by-filter (λ o. cond (eqb (o.account) account) (pos (unit_need asset o)) (pos 0)) is_live orders (λ o full. full_needs_nothing account (sold (weight_in o.row asset)) o full)) (covers account (Some asset) there is_asset))

-- after the batch, accounts cover what the orders that stay need
pub needs_kept_by_batch : (prices : List ℤ) (ts : List Trade) (old new : Balances) (exchange_old exchange_new : Account) → Settles prices ts old new exchange_old exchange_new → All (IsAllowed prices) ts → CoversNeeds old (before_fills ts) → CoversNeeds new (staying ts)
needs_kept_by_batch prices ts old new exchange_old exchange_new settles allowed covers =
    needs_of_live new (after_fills ts) (rw append-nil at (needs_kept prices ts [] old new exchange_old exchange_new settles allowed (rw append-nil covers)))

-- what an account's own orders need is not negative
pub own_not_negative : (need : Order → ℕ) (account : ℕ) (orders : List Order) → pos 0 ≤ℤ own_sum (λ o. o.account) account (λ o. pos (need o)) orders
own_not_negative need account [] = omega (arith, ints)
own_not_negative need account (o ∷ orders) =
    ⊎_elim
    (λ own. rw own (omega (arith, ints, own_not_negative need account orders)))
    (λ other. rw other (omega (arith, ints, own_not_negative need account orders)))
    (cases_Bool (eqb (o.account) account))
