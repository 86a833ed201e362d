-- Orders that are live and ascend, one after another.
use Rattle.std.proofs.Common.{◌≡◌, ℕ, ◌+◌, ◌-◌, ◌<◌, ◌≤◌, List, [], ◌∷◌, ◌++◌, length, map, take, get_or, refl, ap, sym, subst, ◌∙◌, ⊎_elim, arith}
use Rattle.std.specs.Prelude.{All, AllPairs}
use Rattle.std.proofs.lemmas.Bool.{cases_lt}
use Rattle.std.proofs.lemmas.List.{take_all, take_more, length-map, length-take-le, map_push, get_or-map, get_or-take, get_or_default}
use Rattle.std.proofs.lemmas.List.Quantifiers.{all_pairs_push}
use Rattle.wire_records.specs.declared.version.Version.{Version}
use Rattle.flow_accounts.specs.Balances.{Balances}
use Rattle.flow_orders.specs.Orders.{Order}
use Rattle.market_parts.specs.Parts.{ReadOrder, Parts, order_of}
use Rattle.market_parts.specs.Tests.{no_order, order_at, IsConsistentOrder, AreConsistentOrders}
use Rattle.market_parts.proofs.Below.{one_more}

-- the first orders are live and ascend, the last of them has this number, and these orders are made of them
pub record AreConsistentFirst (version : Version) (b : Balances) (p : Parts) (count before : ℕ) (orders : List Order) : Type 0 where
  pub listed : orders ≡ map order_of (take count p.orders)
  pub each : (k : ℕ) → k < count → IsConsistentOrder version b p (order_at p k)
  pub ascending : AllPairs (λ (o : ReadOrder) (later : ReadOrder). o.number < later.number) (take count p.orders)
  pub most : (k : ℕ) → k < count → (order_at p k).number ≤ before
  pub none : count ≡ 0 → before ≡ 0
  pub last : (k : ℕ) → count ≡ k + 1 → before ≡ (order_at p k).number

module _ (version : Version) (b : Balances) (p : Parts) where
  pub none_listed : AreConsistentFirst version b p 0 0 []
  none_listed = record {
    listed = refl;
    each = λ k inside. absurd (omega (arith, inside));
    ascending = λ i j d below inside. absurd (omega (arith, inside));
    most = λ k inside. absurd (omega (arith, inside));
    none = λ _. refl;
    last = λ k is. absurd (omega (arith, is));
  }

  module _ (k before : ℕ) (orders : List Order) (inside : k < length p.orders) (first : AreConsistentFirst version b p k before orders) where
    -- one of the first orders
    taken : (i : ℕ) (d : ReadOrder) → i < k → get_or (take k p.orders) i d ≡ order_at p i
    taken i d below = get_or-take k p.orders i d below ∙ get_or_default p.orders i d no_order (omega (arith, below, inside))

    counted : length (take k p.orders) ≡ k
    counted = length-take-le k p.orders (omega (arith, inside))

    pub listed_length : length orders ≡ k
    listed_length = ap length first.listed ∙ length-map (take k p.orders) order_of ∙ counted

    -- their numbers are below the next one
    pub all_below : before < (order_at p k).number → All (λ (o : Order). o.number < (order_at p k).number) orders
    all_below above =
        subst (λ os. All (λ (o : Order). o.number < (order_at p k).number) os) (sym first.listed)
        (λ i d within.
        let at : i < k = omega (arith, within, length-map (take k p.orders) order_of, counted) in
        let read : get_or (map order_of (take k p.orders)) i d ≡ order_of (order_at p i) = get_or-map order_of (take k p.orders) i no_order d (omega (arith, at, counted)) ∙ ap order_of (taken i no_order at) in
        let number = ap (λ (o : Order). o.number) read in
        omega (arith, number, first.most i at, above))

    pub one_listed : (new : List Order) → IsConsistentOrder version b p (order_at p k) → before < (order_at p k).number → new ≡ orders ++ order_of (order_at p k) ∷ [] → AreConsistentFirst version b p (k + 1) (order_at p k).number new
    one_listed new consistent above added = record {
      listed = added ∙ ap (λ os. os ++ order_of (order_at p k) ∷ []) first.listed ∙ sym (map_push order_of (take k p.orders) (order_at p k)) ∙ ap (map order_of) (sym (take_more p.orders k no_order inside));
      each = one_more (λ k. IsConsistentOrder version b p (order_at p k)) k first.each consistent;
      ascending =
          subst (λ os. AllPairs (λ (o : ReadOrder) (later : ReadOrder). o.number < later.number) os) (sym (take_more p.orders k no_order inside))
          (all_pairs_push (λ (o : ReadOrder) (later : ReadOrder). o.number < later.number) (take k p.orders) (order_at p k) first.ascending
          (λ i d within.
          let at : i < k = omega (arith, within, counted) in
          let number = ap (λ (o : ReadOrder). o.number) (taken i d at) in
          omega (arith, number, first.most i at, above)));
      most = one_more (λ i. (order_at p i).number ≤ (order_at p k).number) k (λ i below. omega (arith, first.most i below, above)) (omega arith);
      none = λ is. absurd (omega (arith, is));
      last = λ i is. let same : i ≡ k = omega (arith, is) in ap (λ j. (order_at p j).number) (sym same);
    }

    -- a number that isn't above the last one
    pub not_ascending : IsConsistentOrder version b p (order_at p k) → (order_at p k).number ≤ before → AreConsistentOrders version b p → ⊥
    not_ascending consistent low all =
        ⊎_elim
        (λ none. let is : k ≡ 0 = omega (arith, none) in omega (arith, first.none is, consistent.numbers.number.0, low))
        (λ some.
        let is : k ≡ k - 1 + 1 = omega (arith, some) in
        omega (arith, low, first.last (k - 1) is, all.ascending (k - 1) k no_order (omega (arith, some)) inside))
        (cases_lt k 1)

  pub all_listed : (count before : ℕ) (orders : List Order) → count ≡ length p.orders → AreConsistentFirst version b p count before orders → (orders ≡ map order_of p.orders) × AreConsistentOrders version b p
  all_listed count before orders whole first =
      let all : take count p.orders ≡ p.orders = take_all count p.orders (omega (arith, whole)) in (
        first.listed ∙ ap (map order_of) all,
        record {
          each = λ place inside. first.each place (omega (arith, inside, whole));
          ascending = subst (λ os. AllPairs (λ (o : ReadOrder) (later : ReadOrder). o.number < later.number) os) all first.ascending;
        },
      )
