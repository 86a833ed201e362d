-- Worked numbers of batches, by computation.
use Rattle.std.proofs.Common.{◌≡◌, true, false, ℤ, pos, List, [], ◌∷◌, refl}
use Rattle.std.specs.Prelude.{neg_ℤ}
use Rattle.weight_rows.specs.Rows.{weight_in, portfolio_price}
use Rattle.demand_curve.specs.Demand.{span, line, scaled_demand, floor_rate, ceil_rate, floor_in, ceil_in, loss, scaled_dual, dual_floor}
use Rattle.demand_curve.specs.Numbers.{distance}
use Rattle.flow_orders.specs.Orders.{Order}
use Rattle.flow_orders.specs.Excess.{steepness, residual_bound, is_unsettled}
use Rattle.flow_orders.specs.WholeUnits.{low_excess, is_above}
use Rattle.flow_orders.specs.Trades.{trades}
use Rattle.flow_orders.specs.Outcomes.{dual_of, clearing_at}
use Rattle.canonical_rule.specs.Canonical.{floor_rates, rates_by_choice}

-- ---- a buyer and a seller of one asset

buyer_and_seller : List Order
buyer_and_seller =
    record { number = 1; account = 1; low = pos 386547056640; high = pos 472446402560; rate = 1000; cap = 10000; filled = 0; row = record { asset = 0; weight = pos 1 } ∷ []; last = 0 }
    ∷ record { number = 2; account = 2; low = neg_ℤ (pos 472446402560); high = neg_ℤ (pos 386547056640); rate = 1000; cap = 10000; filled = 0; row = record { asset = 0; weight = neg_ℤ (pos 1) } ∷ []; last = 0 }
    ∷ []

one_price : List ℤ
one_price = pos 429410830255 ∷ []

bound_is_3 : residual_bound buyer_and_seller 0 ≡ 3
unfolding buyer_and_seller steepness weight_in
bound_is_3 = refl

low_is_0 : low_excess buyer_and_seller one_price 0 ≡ pos 0
unfolding buyer_and_seller one_price weight_in portfolio_price floor_rate ceil_rate scaled_demand line span distance
low_is_0 = refl

low_was_2 : low_excess buyer_and_seller (pos 429410830254 ∷ []) 0 ≡ pos 2
unfolding buyer_and_seller weight_in portfolio_price floor_rate ceil_rate scaled_demand line span distance
low_was_2 = refl

-- all demands rounded down
floors_are : floor_rates buyer_and_seller one_price ≡ 500 ∷ 499 ∷ []
unfolding buyer_and_seller one_price portfolio_price floor_rate scaled_demand line span distance
floors_are = refl

floors_gap : (clearing_at 1 one_price (trades buyer_and_seller (500 ∷ 499 ∷ []))).gap ≡ neg_ℤ (pos 429367880581)
unfolding buyer_and_seller one_price weight_in portfolio_price loss scaled_demand line span distance
floors_gap = refl

-- the chosen rates
chosen_are : rates_by_choice 1 buyer_and_seller one_price ≡ 500 ∷ 500 ∷ []
unfolding buyer_and_seller one_price weight_in portfolio_price floor_rate ceil_rate scaled_demand line span distance
chosen_are = refl

chosen_published : clearing_at 1 one_price (trades buyer_and_seller (500 ∷ 500 ∷ [])) ≡ record { prices = pos 429410830255 ∷ []; fills = record { order = 1; rate = 500 } ∷ record { order = 2; rate = 500 } ∷ []; residuals = pos 0 ∷ []; gap = pos 85899346 }
unfolding buyer_and_seller one_price weight_in portfolio_price loss scaled_demand line span distance
chosen_published = refl

-- ---- a portfolio and two sellers

portfolio_book : List Order
portfolio_book =
    record { number = 1; account = 1; low = pos 429496729600; high = pos 2147483648000; rate = 100; cap = 1000; filled = 0; row = record { asset = 0; weight = pos 1 } ∷ record { asset = 1; weight = pos 1 } ∷ []; last = 0 }
    ∷ record { number = 2; account = 2; low = neg_ℤ (pos 472446402560); high = neg_ℤ (pos 386547056640); rate = 1000; cap = 10000; filled = 0; row = record { asset = 0; weight = neg_ℤ (pos 1) } ∷ []; last = 0 }
    ∷ record { number = 3; account = 2; low = neg_ℤ (pos 472446402560); high = neg_ℤ (pos 386547056640); rate = 1000; cap = 10000; filled = 0; row = record { asset = 1; weight = neg_ℤ (pos 1) } ∷ []; last = 0 }
    ∷ []

two_prices : List ℤ
two_prices = pos 393590803005 ∷ pos 393161306276 ∷ []

rates_are : rates_by_choice 2 portfolio_book two_prices ≡ 79 ∷ 81 ∷ 78 ∷ []
unfolding portfolio_book two_prices weight_in portfolio_price floor_rate ceil_rate scaled_demand line span distance
rates_are = refl

published : clearing_at 2 two_prices (trades portfolio_book (79 ∷ 81 ∷ 78 ∷ []))
    ≡ record { prices = pos 393590803005 ∷ pos 393161306276 ∷ []; fills = record { order = 1; rate = 79 } ∷ record { order = 2; rate = 81 } ∷ record { order = 3; rate = 78 } ∷ []; residuals = neg_ℤ (pos 2) ∷ pos 1 ∷ []; gap = pos 394467191082 }
unfolding portfolio_book two_prices weight_in portfolio_price loss scaled_demand line span distance
published = refl

start_dual_is : dual_of portfolio_book (pos 0 ∷ pos 0 ∷ []) ≡ 128849018880000
unfolding portfolio_book portfolio_price dual_floor scaled_dual scaled_demand line span distance
start_dual_is = refl

end_dual_is : dual_of portfolio_book (pos 394965192541 ∷ pos 0 ∷ []) ≡ 89764988285090
unfolding portfolio_book portfolio_price dual_floor scaled_dual scaled_demand line span distance
end_dual_is = refl

-- the first move ends where the low excess is no longer above the slope bound, and not a grain before
first_move_ends : is_above portfolio_book (pos 394965192541 ∷ pos 0 ∷ []) 0 ≡ false
unfolding portfolio_book steepness weight_in portfolio_price floor_rate ceil_rate scaled_demand line span distance
first_move_ends = refl

not_before : is_above portfolio_book (pos 394965192540 ∷ pos 0 ∷ []) 0 ≡ true
unfolding portfolio_book steepness weight_in portfolio_price floor_rate ceil_rate scaled_demand line span distance
not_before = refl

all_settled : (is_unsettled portfolio_book two_prices 0 ≡ false) × (is_unsettled portfolio_book two_prices 1 ≡ false)
unfolding portfolio_book two_prices is_unsettled steepness weight_in portfolio_price floor_rate ceil_rate floor_in ceil_in scaled_demand line span distance
all_settled = (refl, refl)
