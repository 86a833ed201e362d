-- The canonical outcome of a batch: the prices or the walk that the rule reaches, and the rates that it chooses.
use Rattle.std.specs.Prelude.{◌≡◌, ℕ, nat_lt, Bool, true, false, if◌then◌else◌, ℤ, List, [], ◌∷◌, map, length}
use Rattle.weight_rows.specs.Rows.{weight_in}
use Rattle.demand_curve.specs.Demand.{floor_rate, ceil_rate}
use Rattle.flow_orders.specs.Orders.{Order, terms_of}
use Rattle.flow_orders.specs.Excess.{price_for, is_unsettled}
use Rattle.flow_orders.specs.Moves.{moved, single_reach}
use Rattle.canonical_rule.specs.Turns.{visits}
use Rattle.canonical_rule.specs.Attempts.{canonical_walk, attempts, EndsFirst, NoneSucceeds}
use Rattle.canonical_rule.specs.Choice.{chosen_rates}
use Rattle.flow_orders.specs.Trades.{trades}
use Rattle.flow_orders.specs.Outcomes.{BatchRule, Cleared, Skipped, skipping_at, clearing_at, are_single}
use Rattle.flow_orders.specs.declared.search.Search.{Search}

-- the prices after a visit of each asset of a list: one that is unsettled then is moved, with a reach of 2^61 grains
abbrev pub moved_once : ℕ → List Order → List ℕ → List ℤ → List ℤ
moved_once parts orders [] prices = prices
moved_once parts orders (a ∷ rest) prices = moved_once parts orders rest (if is_unsettled orders prices a then moved parts orders single_reach prices a else prices)

-- the prices that the canonical rule reaches: each asset moved once if every order names one asset, else the end of the first attempt at
-- whose end all assets are settled
abbrev pub ArePricesOf : Search → Bool → List Order → List ℤ → ℕ → List ℤ → Type 0
ArePricesOf search true orders start budget end = end ≡ moved_once search.parts orders (visits (length start) 0) start
ArePricesOf search false orders start budget end = EndsFirst search.parts orders (attempts search.joint orders start budget) end

-- the demand of an order at prices, rounded down, in units of its portfolio
abbrev pub floor_at : List ℤ → Order → ℕ
floor_at prices o = floor_rate (terms_of o) (price_for prices o)

-- whether the demand of an order at prices isn't whole
abbrev pub is_fraction_at : List ℤ → Order → Bool
is_fraction_at prices o = nat_lt (floor_at prices o) (ceil_rate (terms_of o) (price_for prices o))

-- the demands of all orders at prices, each rounded down
abbrev pub floor_rates : List Order → List ℤ → List ℕ
floor_rates orders prices = map (floor_at prices) orders

-- the rates that the program publishes at prices of n assets: chosen order by order, for a smaller sum of absolute imbalances
abbrev pub rates_by_choice : ℕ → List Order → List ℤ → List ℕ
rates_by_choice n orders prices = chosen_rates n (λ o asset. weight_in o.row asset) (floor_at prices) (is_fraction_at prices) orders

-- the canonical outcome: a clearing at the prices that the rule reaches with the rates that it chooses, or, if no attempt succeeds, a skip
-- after the canonical walk from the start prices with the whole budget
abbrev pub IsCanonicalOutcome : BatchRule
IsCanonicalOutcome search orders start budget (Cleared c) =
    ArePricesOf search (are_single orders) orders start budget c.prices
    × (c ≡ clearing_at (length start) c.prices (trades orders (rates_by_choice (length start) orders c.prices)))
IsCanonicalOutcome search orders start budget (Skipped s) =
    (are_single orders ≡ false)
    × NoneSucceeds search.parts orders (attempts search.joint orders start budget)
    × (s ≡ skipping_at search.parts orders start (canonical_walk search.parts orders start budget))
