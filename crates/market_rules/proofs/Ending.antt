-- Orders leave after their last batch.
use Rattle.std.proofs.Common.{◌≡◌, ◌≢◌, ◌⊎◌, inl, inr, ℕ, zero, suc, ◌+◌, ◌<◌, true, false, eqb, List, [], ◌∷◌, length, refl, ap, sym, ⊎_elim, ◌∙◌, arith}
use Rattle.std.specs.Prelude.{All, Contains, slice_index_or, not, ◌==◌}
use Rattle.std.proofs.lemmas.Bool.{false≢true}
use Rattle.std.proofs.lemmas.Bool.Decides.{eqb_tells}
use Rattle.std.proofs.lemmas.List.Elements.{filter_passes}
use Rattle.flow_orders.specs.Orders.{Order}
use Rattle.flow_orders.specs.Trades.{going_on}
use Rattle.market_rules.specs.Market.{Market, IsInTime, IsLiveOrder}

-- an order that passes has another last batch
passes_other : (last batch : ℕ) → not (last == batch) ≡ true → last ≢ batch
passes_other last batch passes =
    ⊎_elim (λ same. absurd (false≢true (sym (ap not same.0) ∙ passes))) (λ other. other.1) (eqb_tells last batch)

other_passes : (last batch : ℕ) → last ≢ batch → not (last == batch) ≡ true
other_passes last batch differs =
    ⊎_elim (λ same. absurd (differs same.1)) (λ other. ap not other.0) (eqb_tells last batch)

-- the orders that go on have other last batches
pub others_go_on : (batch : ℕ) (orders : List Order) → All (λ (o : Order). o.last ≢ batch) (going_on batch orders)
others_go_on batch orders k d inside =
    passes_other (slice_index_or (going_on batch orders) k d).last batch (filter_passes (λ (o : Order). not (o.last == batch)) orders k d inside)

-- an order whose last batch isn't the one that is held is still in time after it
pub still_in_time : (m n : Market) (o : Order) → n.version ≡ m.version → n.batches ≡ m.batches + 1 → o.last ≢ m.batches + 1 → IsInTime m o → IsInTime n o
still_in_time m n o version batches other time =
    elim time [ inl none ↦ inl none | inr some ↦ inr (λ one. some.0 (sym version ∙ one), omega (arith, some.1, other, batches)) ]

pub all_in_time : (m : Market) (orders : List Order) → All (IsLiveOrder m) orders → All (IsInTime m) orders
all_in_time m orders live k d inside = (live k d inside).in_time

-- all go on if none has this last batch
pub all_go_on : (batch : ℕ) (orders : List Order) → All (λ (o : Order). o.last ≢ batch) orders → going_on batch orders ≡ orders
all_go_on batch [] none = refl
all_go_on batch (o ∷ orders) none =
    let here = other_passes o.last batch (none 0 o (omega arith)) in
    rw here (ap (λ l. o ∷ l) (all_go_on batch orders (λ k d inside. none (suc k) d (omega (arith, inside)))))

-- an order with another last batch goes on
pub goes_on : (batch : ℕ) (orders : List Order) (o : Order) → Contains orders o → o.last ≢ batch → Contains (going_on batch orders) o
goes_on batch orders o live other = at_place orders live.0 live.1 live.2
  where
    later : (x : Order) (xs : List Order) → Contains (going_on batch xs) o → ((eqb x.last batch ≡ true) × (x.last ≡ batch)) ⊎ ((eqb x.last batch ≡ false) × (x.last ≢ batch)) → Contains (going_on batch (x ∷ xs)) o
    later x xs rest (inl same) = rw (ap not same.0) rest
    later x xs rest (inr differs) = rw (ap not differs.0) (suc rest.0, omega (arith, rest.1), rest.2)

    at_place : (xs : List Order) (k : ℕ) → k < length xs → slice_index_or xs k o ≡ o → Contains (going_on batch xs) o
    at_place [] k inside is = absurd (omega (arith, inside))
    at_place (x ∷ xs) zero inside is =
        let here = other_passes x.last batch (λ e. other (ap (λ (y : Order). y.last) (sym is) ∙ e)) in
        rw here (0, omega arith, is)
    at_place (x ∷ xs) (suc k) inside is = later x xs (at_place xs k (omega (arith, inside)) is) (eqb_tells x.last batch)
