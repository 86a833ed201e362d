-- A copy of a published clearing, as an outcome of a batch of orders, and what a market settles for it.
use Rattle.std.proofs.Common.{◌≡◌, ℕ, ◌+◌, ℤ, List, [], ◌∷◌, Some, map, length, refl, sym, ap, subst, ◌∙◌}
use Rattle.std.proofs.lemmas.List.{length-map}
use Rattle.wire_records.specs.Commands.{Batch}
use Rattle.flow_orders.specs.Orders.{Order}
use Rattle.flow_orders.specs.Trades.{trades}
use Rattle.flow_orders.specs.Outcomes.{Fill, Clearing, Cleared, fill_of, trades_of, IsAdmissibleClearing}
use Rattle.batch_outcome.specs.declared.outcome.Cleared as copied
use Rattle.batch_outcome.specs.declared.outcome.Outcome.TheVariants as parts
use Rattle.batch_outcome.specs.Published.{clearing_of}
use Rattle.batch_outcome.specs.Parts.{rates_in}
use Rattle.market_rules.specs.Market.{Market, start_prices}
use Rattle.market_rules.specs.Step.{after_batch}
use Rattle.batch_audit.specs.Private.{IsOutcomeFor}

-- lists of numbers that begin alike
heads : (a b : ℕ) (x y : List ℕ) → a ∷ x ≡ b ∷ y → (a ≡ b) × (x ≡ y)
heads a b x y e = (cc, cc)

-- fills under the numbers of the orders are those of the orders with their rates
fills_told : (orders : List Order) (fills : List Fill) → map (λ (f : Fill). f.order) fills ≡ map (λ (o : Order). o.number) orders → map fill_of (trades_of orders fills) ≡ fills
fills_told [] [] same = refl
fills_told [] (f ∷ fills) same = absurd cc
fills_told (o ∷ orders) [] same = absurd cc
fills_told (o ∷ orders) (f ∷ fills) same =
    let first = heads f.order o.number (map (λ (f : Fill). f.order) fills) (map (λ (o : Order). o.number) orders) same in
    let one : record { order = o.number; rate = f.rate } ≡ f = ap (λ n. record { order = n; rate = f.rate }) (sym first.0) in
    ap (λ head. head ∷ map fill_of (trades_of orders fills)) one ∙ ap (λ rest. f ∷ rest) (fills_told orders fills first.1)

module _ (orders : List Order) (start : List ℤ) (clearing : Clearing) (c : copied.Cleared) (right : IsAdmissibleClearing orders start clearing) (rates : c.rates ≡ rates_in clearing) where
  -- there is one rate for each order
  one_rate_each : length c.rates ≡ length orders
  one_rate_each =
      ap length rates ∙ length-map clearing.fills (λ (f : Fill). f.rate) ∙ sym (length-map clearing.fills (λ (f : Fill). f.order)) ∙ ap length right.numbers ∙ length-map orders (λ (o : Order). o.number)

  -- the copy is the clearing
  copy_is : c.prices ≡ clearing.prices → c.residuals ≡ clearing.residuals → c.gap ≡ clearing.gap → clearing_of orders c ≡ clearing
  copy_is prices residuals gap =
      let made : List ℤ → List Fill → List ℤ → ℤ → Clearing = λ p f r g. record { prices = p; fills = f; residuals = r; gap = g } in
      let fills : (clearing_of orders c).fills ≡ clearing.fills = ap (λ xs. map fill_of (trades orders xs)) rates ∙ fills_told orders clearing.fills right.numbers in
      ap (λ p. made p (clearing_of orders c).fills c.residuals c.gap) prices ∙ ap (λ f. made clearing.prices f c.residuals c.gap) fills
      ∙ ap (λ r. made clearing.prices clearing.fills r c.gap) residuals ∙ ap (λ g. made clearing.prices clearing.fills clearing.residuals g) gap

-- the market settles the copy for the batch
pub cleared_told : (m : Market) (budget number : ℕ) (clearing : Clearing) (c : copied.Cleared) → number ≡ m.batches + 1 → IsAdmissibleClearing m.orders (start_prices m) clearing
    → c.prices ≡ clearing.prices → c.rates ≡ rates_in clearing → c.residuals ≡ clearing.residuals → c.gap ≡ clearing.gap
    → IsOutcomeFor m budget (Batch number (Cleared clearing)) (Some (parts.Cleared c))
cleared_told m budget number clearing c next right prices rates residuals gap =
    let is = copy_is m.orders (start_prices m) clearing c right rates prices residuals gap in (
      record { one_rate_each = one_rate_each m.orders (start_prices m) clearing c right rates; right = subst (IsAdmissibleClearing m.orders (start_prices m)) (sym is) right },
      (Cleared clearing, right, (ap (λ n. Batch n (Cleared clearing)) next, ap (λ x. after_batch m (Cleared x)) is)),
    )
