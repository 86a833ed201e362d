-- The orders of each account, from one to its next.
use Rattle.std.proofs.Common.{◌≡◌, ◌⊎◌, inl, inr, ℕ, suc, ◌+◌, ◌-◌, ◌<◌, ◌≤◌, List, [], ◌∷◌, ◌++◌, length, get_or, set, refl, sym, ap, subst, ◌∙◌, arith}
use Rattle.std.proofs.lemmas.Bool.{cases_eq, eq-eqb, ne_eqb}
use Rattle.std.proofs.lemmas.List.{get_or_append_left, get_or-append_right, get_or-set_same, get_or-set_other, length-set, length-append}
use Rattle.flow_orders.specs.Orders.{Order}
use Rattle.desk_messages.specs.Private.{owners, own_places, IsChain, AreLinked}

-- a chain stays one when `nexts` gets one more
chain_more : (count : ℕ) (nexts : List ℕ) (x first : ℕ) (places : List ℕ) → IsChain count nexts first places → IsChain count (nexts ++ x ∷ []) first places
chain_more count nexts x first [] chain = chain
chain_more count nexts x first (place ∷ more) chain =
    let same : get_or (nexts ++ x ∷ []) (first - 1) 0 ≡ get_or nexts (first - 1) 0 = get_or_append_left nexts (x ∷ []) 0 (first - 1) (omega (arith, chain.1, chain.2)) in (
      chain.0,
      chain.1,
      omega (arith, chain.2, length-append nexts (x ∷ [])),
      omega (arith, same, chain.3),
      subst (λ next. IsChain count (nexts ++ x ∷ []) next more) (sym same) (chain_more count nexts x (get_or nexts (first - 1) 0) more chain.4),
    )

-- the first of a chain is one of `nexts`, or none
chain_within : (count : ℕ) (nexts : List ℕ) (first : ℕ) (places : List ℕ) → IsChain count nexts first places → first ≤ length nexts
chain_within count nexts first [] chain = omega (arith, chain)
chain_within count nexts first (place ∷ more) chain = chain.2

-- the order at the first place is the account's own
own_here : (account : ℕ) (owners : List ℕ) (from count : ℕ) → get_or owners from 0 ≡ account → own_places account owners from (suc count) ≡ from ∷ own_places account owners (from + 1) count
own_here account owners from count is = rw (eq-eqb (get_or owners from 0) account is) refl

-- the order at the first place is another's
own_other : (account : ℕ) (owners : List ℕ) (from count : ℕ) → (get_or owners from 0 ≡ account → ⊥) → own_places account owners from (suc count) ≡ own_places account owners (from + 1) count
own_other account owners from count differs = rw (ne_eqb (get_or owners from 0) account differs) refl

-- the last orders, so many, are linked
pub record AreLinking (orders : List Order) (accounts follow : ℕ) (firsts nexts : List ℕ) : Type 0 where
  pub all : length nexts ≡ follow
  pub each : length firsts ≡ accounts
  pub chains : (account : ℕ) → account < accounts → IsChain (length orders) nexts (get_or firsts account 0) (own_places (account + 1) (owners orders) (length orders - follow) follow)

pub none_linked : (orders : List Order) (accounts : ℕ) (firsts : List ℕ) → length firsts ≡ accounts → ((account : ℕ) → account < accounts → get_or firsts account 0 ≡ 0) → AreLinking orders accounts 0 firsts []
none_linked orders accounts firsts each zeros = record { all = refl; each = each; chains = zeros }

pub one_linked : (orders : List Order) (accounts follow : ℕ) (firsts nexts : List ℕ) (owner : ℕ) → follow < length orders → AreLinking orders accounts follow firsts nexts
    → 0 < owner → owner ≤ accounts → get_or (owners orders) (length orders - 1 - follow) 0 ≡ owner
    → AreLinking orders accounts (follow + 1) (set firsts (owner - 1) (follow + 1)) (nexts ++ get_or firsts (owner - 1) 0 ∷ [])
one_linked orders accounts follow firsts nexts owner inside before some there is = record {
  all = omega (arith, before.all, length-append nexts (get_or firsts (owner - 1) 0 ∷ []));
  each = length-set firsts (owner - 1) (follow + 1) ∙ before.each;
  chains = λ account within. by account within (cases_eq (account + 1) owner);
}
  where
    from : ℕ
    from = length orders - 1 - follow

    last : ℕ
    last = get_or firsts (owner - 1) 0

    after : List ℕ
    after = nexts ++ last ∷ []

    goes_on : from + 1 ≡ length orders - follow
    goes_on = omega (arith, inside)

    at_end : get_or after (follow + 1 - 1) 0 ≡ last
    at_end =
        let none : follow + 1 - 1 - follow ≡ 0 = omega arith in
        get_or-append_right nexts (last ∷ []) follow (follow + 1 - 1) 0 before.all (omega arith) ∙ ap (λ k. get_or (last ∷ []) k 0) none

    -- what was linked before stays so
    rest : (account : ℕ) → account < accounts → IsChain (length orders) after (get_or firsts account 0) (own_places (account + 1) (owners orders) (from + 1) follow)
    rest account within =
        chain_more (length orders) nexts last (get_or firsts account 0) _
        (subst (λ k. IsChain (length orders) nexts (get_or firsts account 0) (own_places (account + 1) (owners orders) k follow)) (sym goes_on) (before.chains account within))

    -- the places of one more order
    more : (account : ℕ) (places : List ℕ) (first : ℕ) → own_places (account + 1) (owners orders) from (suc follow) ≡ places → get_or (set firsts (owner - 1) (follow + 1)) account 0 ≡ first
        → IsChain (length orders) after first places
        → IsChain (length orders) after (get_or (set firsts (owner - 1) (follow + 1)) account 0) (own_places (account + 1) (owners orders) (length orders - (follow + 1)) (follow + 1))
    more account places first same_places same_first chain =
        let start : from ≡ length orders - (follow + 1) = omega (arith, inside) in
        let one_more : suc follow ≡ follow + 1 = omega arith in
        subst (λ k. IsChain (length orders) after (get_or (set firsts (owner - 1) (follow + 1)) account 0) (own_places (account + 1) (owners orders) k (follow + 1))) start
        (subst (λ n. IsChain (length orders) after (get_or (set firsts (owner - 1) (follow + 1)) account 0) (own_places (account + 1) (owners orders) from n)) one_more
        (subst (λ ps. IsChain (length orders) after (get_or (set firsts (owner - 1) (follow + 1)) account 0) ps) (sym same_places)
        (subst (λ f. IsChain (length orders) after f places) (sym same_first) chain)))

    by : (account : ℕ) → account < accounts → (account + 1 ≡ owner) ⊎ (account + 1 ≡ owner → ⊥)
        → IsChain (length orders) after (get_or (set firsts (owner - 1) (follow + 1)) account 0) (own_places (account + 1) (owners orders) (length orders - (follow + 1)) (follow + 1))
    by account within (inl same) =
        let at : account ≡ owner - 1 = omega (arith, same) in
        let old : IsChain (length orders) after last (own_places (account + 1) (owners orders) (from + 1) follow) = subst (λ k. IsChain (length orders) after (get_or firsts k 0) (own_places (account + 1) (owners orders) (from + 1) follow)) at (rest account within) in
        more account (from ∷ own_places (account + 1) (owners orders) (from + 1) follow) (follow + 1)
        (own_here (account + 1) (owners orders) from follow (is ∙ sym same))
        (ap (λ k. get_or (set firsts (owner - 1) (follow + 1)) k 0) at ∙ get_or-set_same firsts (owner - 1) (follow + 1) 0 (omega (arith, some, there, before.each))) (
          omega (arith, inside),
          omega arith,
          omega (arith, before.all, length-append nexts (last ∷ [])),
          omega (arith, at_end, chain_within (length orders) nexts last _ (subst (λ k. IsChain (length orders) nexts (get_or firsts k 0) (own_places (account + 1) (owners orders) (length orders - follow) follow)) at (before.chains account within)), before.all),
          subst (λ next. IsChain (length orders) after next (own_places (account + 1) (owners orders) (from + 1) follow)) (sym at_end) old,
        )
    by account within (inr differs) =
        more account (own_places (account + 1) (owners orders) (from + 1) follow) (get_or firsts account 0)
        (own_other (account + 1) (owners orders) from follow (λ same. differs (sym same ∙ is)))
        (get_or-set_other firsts (owner - 1) account (follow + 1) 0 (λ same. differs (omega (arith, same, some))))
        (rest account within)

pub all_linked : (orders : List Order) (accounts follow : ℕ) (firsts nexts : List ℕ) → follow ≡ length orders → AreLinking orders accounts follow firsts nexts → AreLinked orders accounts firsts nexts
all_linked orders accounts follow firsts nexts whole before = record {
  all = before.all ∙ whole;
  each = before.each;
  chains = λ account within.
      let start : length orders - follow ≡ 0 = omega (arith, whole) in
      subst (λ n. IsChain (length orders) nexts (get_or firsts account 0) (own_places (account + 1) (owners orders) 0 n)) whole
      (subst (λ k. IsChain (length orders) nexts (get_or firsts account 0) (own_places (account + 1) (owners orders) k follow)) start (before.chains account within));
}
