-- What an account's own orders need when orders come and go.
use Rattle.std.proofs.Common.{◌≡◌, ◌≢◌, ℕ, suc, ◌<◌, Bool, cond, eqb, ℤ, pos, ◌+ℤ◌, ◌-ℤ◌, ◌≤ℤ◌, List, [], ◌∷◌, ◌++◌, refl, ⊎_elim, arith, Some, None, Option}
use Rattle.std.specs.Prelude.{All}
use Rattle.std.specs.List.{filter}
use Rattle.std.proofs.lemmas.Int.{ints}
use Rattle.std.proofs.lemmas.Bool.{cases_Bool}
use Rattle.std.proofs.lemmas.Bool.Decides.{eqb_tells}
use Rattle.weight_rows.specs.declared.entries.Entry.{Entry}
use Rattle.weight_rows.specs.Rows.{weight_in}
use Rattle.flow_accounts.specs.Balances.{Balances, IsKind, balance_with_credit}
use Rattle.flow_orders.specs.Orders.{Order, own_sum, money_need, unit_need, need_of, needed}
use Rattle.fill_caps.specs.Covers.{CoversNeeds}
use Rattle.flow_orders.proofs.OwnSums.{own_sum-append}
use Rattle.fill_caps.proofs.Needs.{covers_both}

-- an asset above all that a weight vector names has no weight in it
pub weight_above : (row : List Entry) (asset : ℕ) → All (λ e. e.asset < asset) row → weight_in row asset ≡ pos 0
unfolding weight_in
weight_above [] asset below = refl
weight_above (e ∷ row) asset below =
    ⊎_elim
    (λ same. let less : e.asset < asset = below 0 e (omega arith) in absurd (omega (arith, less, same.1)))
    (λ other. rw other.0 (weight_above row asset (λ k d inside. below (suc k) d (omega (arith, inside)))))
    (eqb_tells e.asset asset)

module _ {X : Type 0} (whose : X → ℕ) (f : X → ℤ) where
  -- an account's own sum is 0 if nothing is its own, or if all is zero
  pub own_sum-none : (account : ℕ) (xs : List X) → All (λ x. whose x ≢ account) xs → own_sum whose account f xs ≡ pos 0
  own_sum-none account [] none = refl
  own_sum-none account (x ∷ xs) none =
      let here : whose x ≢ account = none 0 x (omega arith) in
      let rest = own_sum-none account xs (λ k d inside. none (suc k) d (omega (arith, inside))) in
      ⊎_elim (λ same. absurd (here same.1)) (λ other. rw other.0 (omega (arith, ints, rest))) (eqb_tells (whose x) account)

  pub own_sum-zeros : (account : ℕ) (xs : List X) → All (λ x. f x ≡ pos 0) xs → own_sum whose account f xs ≡ pos 0
  own_sum-zeros account [] zeros = refl
  own_sum-zeros account (x ∷ xs) zeros =
      let here : f x ≡ pos 0 = zeros 0 x (omega arith) in
      let rest = own_sum-zeros account xs (λ k d inside. zeros (suc k) d (omega (arith, inside))) in
      ⊎_elim (λ same. rw same.0 (omega (arith, ints, here, rest))) (λ other. rw other.0 (omega (arith, ints, rest))) (eqb_tells (whose x) account)

  -- a filter doesn't raise a sum of what isn't negative
  pub own_sum-filter : (account : ℕ) (p : X → Bool) (xs : List X) → ((x : X) → pos 0 ≤ℤ f x) → own_sum whose account f (filter p xs) ≤ℤ own_sum whose account f xs
  own_sum-filter account p [] positive = omega (arith, ints)
  own_sum-filter account p (x ∷ xs) positive =
      let rest = own_sum-filter account p xs positive in
      ⊎_elim
      (λ kept. rw kept (omega (arith, ints, rest)))
      (λ dropped. rw dropped (⊎_elim (λ same. rw same.0 (omega (arith, ints, rest, positive x))) (λ other. rw other.0 (omega (arith, ints, rest))) (eqb_tells (whose x) account)))
      (cases_Bool (p x))

  -- the sum with one more element
  pub own_sum-push : (account : ℕ) (xs : List X) (x : X) → own_sum whose account f (xs ++ x ∷ []) ≡ own_sum whose account f xs +ℤ cond (eqb (whose x) account) (f x) (pos 0)
  own_sum-push account xs x = let all = own_sum-append whose f account xs (x ∷ []) in omega (arith, ints, all)

-- needs stay covered when orders leave
pub needs-filter : (b : Balances) (p : Order → Bool) (orders : List Order) → CoversNeeds b orders → CoversNeeds b (filter p orders)
needs-filter b p orders covers =
    covers_both b (filter p orders)
    (λ account there.
    let less = own_sum-filter (λ (o : Order). o.account) (λ (o : Order). pos (money_need o)) account p orders (λ x. omega (arith, ints)) in
    omega (arith, ints, less, covers account None there tt))
    (λ account asset there is_asset.
    let less = own_sum-filter (λ (o : Order). o.account) (λ (o : Order). pos (unit_need asset o)) account p orders (λ x. omega (arith, ints)) in
    omega (arith, ints, less, covers account (Some asset) there is_asset))

-- needs stay covered when an order is placed that needs what is free
pub needs-push : (b : Balances) (orders : List Order) (o : Order) → CoversNeeds b orders
    → ((kind : Option ℕ) → IsKind b kind → pos (need_of kind o) ≤ℤ (balance_with_credit b o.account kind -ℤ needed orders o.account kind))
    → CoversNeeds b (orders ++ o ∷ [])
needs-push b orders o covers enough account kind there is_kind =
    let all = own_sum-push (λ (o : Order). o.account) (λ (o : Order). pos (need_of kind o)) account orders o in
    ⊎_elim
    (λ same.
    let free : pos (need_of kind o) ≤ℤ (balance_with_credit b account kind -ℤ needed orders account kind) = rw (← same.1) (enough kind is_kind) in
    let here = rw same.0 at all in
    omega (arith, ints, here, free))
    (λ other. let here = rw other.0 at all in omega (arith, ints, here, covers account kind there is_kind))
    (eqb_tells o.account account)
