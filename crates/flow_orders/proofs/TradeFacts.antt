-- Trades of orders with one rate each: the orders before and after their fills.
use Rattle.std.proofs.Common.{◌≡◌, ℕ, zero, suc, ◌<◌, ◌≤◌, List, [], ◌∷◌, map, length, refl, ap, arith}
use Rattle.std.specs.Prelude.{◌<ℤ◌, All, ℤ, Bool, nat_lt}
use Rattle.weight_rows.specs.Rows.{portfolio_price}
use Rattle.flow_orders.specs.Orders.{Order, remaining_quantity}
use Rattle.flow_orders.specs.Trades.{Trade, trades, after_fill}
use Rattle.flow_orders.specs.Outcomes.{Fill, fill_of}

-- the orders before the batch
abbrev pub before_fills : List Trade → List Order
before_fills ts = map (λ t. t.order) ts

-- all orders after their fills
abbrev pub after_fills : List Trade → List Order
after_fills ts = map after_fill ts

-- whether an order isn't filled to its cap
abbrev pub is_live : Order → Bool
is_live o = nat_lt o.filled o.cap

-- a trade is within what its order allows: the remaining quantity, and nothing at or above the high limit
pub record IsAllowed (prices : List ℤ) (t : Trade) : Type 0 where
  pub within : t.traded ≤ remaining_quantity t.order
  pub below_high : 0 < t.traded → portfolio_price t.order.row prices <ℤ t.order.high

-- the orders of trades are the orders
pub before-trades : (orders : List Order) (rates : List ℕ) → length rates ≡ length orders → before_fills (trades orders rates) ≡ orders
before-trades [] rates count = refl
before-trades (o ∷ orders) [] count = absurd (omega (arith, count))
before-trades (o ∷ orders) (x ∷ rates) count = ap (λ l. o ∷ l) (before-trades orders rates (omega (arith, count)))

-- what holds of each order holds of each trade's order
pub All-trades : (P : Order → Type 0) (orders : List Order) (rates : List ℕ) → All P orders → All (λ t. P t.order) (trades orders rates)
All-trades P [] rates all k d inside = absurd (omega (arith, inside))
All-trades P (o ∷ orders) [] all k d inside = absurd (omega (arith, inside))
All-trades P (o ∷ orders) (x ∷ rates) all zero d inside = all 0 o (omega arith)
All-trades P (o ∷ orders) (x ∷ rates) all (suc k) d inside = All-trades P orders rates (λ j e within. all (suc j) e (omega (arith, within))) k d (omega (arith, inside))

-- the published rates of trades are the rates
pub rates_back : (orders : List Order) (rates : List ℕ) → length rates ≡ length orders → map (λ (f : Fill). f.rate) (map fill_of (trades orders rates)) ≡ rates
rates_back [] [] count = refl
rates_back [] (x ∷ rates) count = absurd (omega (arith, count))
rates_back (o ∷ orders) [] count = absurd (omega (arith, count))
rates_back (o ∷ orders) (x ∷ rates) count = ap (λ l. x ∷ l) (rates_back orders rates (omega (arith, count)))
