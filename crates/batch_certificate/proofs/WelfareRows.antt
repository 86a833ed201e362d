-- Worked numbers of welfare, by computation.
use Rattle.std.proofs.Common.{◌≡◌, ◌≤ℤ◌, ℕ, pos, ◌+ℤ◌, ◌*ℤ◌, List, [], ◌∷◌, refl, arith}
use Rattle.std.specs.Prelude.{neg_ℤ}
use Rattle.std.proofs.lemmas.Int.{ints}
use Rattle.weight_rows.specs.Rows.{weight_in, portfolio_price}
use Rattle.demand_curve.specs.Demand.{span, line, scaled_demand, loss}
use Rattle.demand_curve.specs.Numbers.{distance}
use Rattle.demand_curve.specs.Welfare.{scaled_welfare}
use Rattle.flow_orders.specs.Orders.{Order}
use Rattle.flow_orders.specs.Trades.{trades, residual}
use Rattle.flow_orders.specs.Outcomes.{gap_of}
use Rattle.flow_orders.specs.Welfare.{welfare}

-- a buyer and a seller of one asset, each with limits of 90 and 110 ticks
buyer_and_seller : List Order
buyer_and_seller =
    record { number = 1; account = 1; low = pos 386547056640; high = pos 472446402560; rate = 1000; cap = 10000; filled = 0; row = record { asset = 0; weight = pos 1 } ∷ []; last = 0 }
    ∷ record { number = 2; account = 2; low = neg_ℤ (pos 472446402560); high = neg_ℤ (pos 386547056640); rate = 1000; cap = 10000; filled = 0; row = record { asset = 0; weight = neg_ℤ (pos 1) } ∷ []; last = 0 }
    ∷ []

-- a number that twice the rate of both divides
common : ℕ
common = 4000000

-- the balanced rates 500 and 500 have a welfare of 5,000 ticks, in parts of 1/4,000,000 of a grain
balanced_welfare : welfare common 1 (trades buyer_and_seller (500 ∷ 500 ∷ [])) ≡ pos 85899345920000000000
unfolding common buyer_and_seller scaled_welfare span distance
balanced_welfare = refl

nothing_is_left : residual (trades buyer_and_seller (500 ∷ 500 ∷ [])) 0 ≡ pos 0
unfolding buyer_and_seller weight_in
nothing_is_left = refl

-- the published rates 500 and 499 have an imbalance of one unit, and more welfare
published_welfare : welfare common 1 (trades buyer_and_seller (500 ∷ 499 ∷ [])) ≡ pos 87617161039708160000
unfolding common buyer_and_seller scaled_welfare span distance
published_welfare = refl

one_is_left : residual (trades buyer_and_seller (500 ∷ 499 ∷ [])) 0 ≡ pos 1
unfolding buyer_and_seller weight_in
one_is_left = refl

published_gap : gap_of (pos 429410830255 ∷ []) (trades buyer_and_seller (500 ∷ 499 ∷ [])) ≡ neg_ℤ (pos 429367880581)
unfolding buyer_and_seller weight_in portfolio_price loss scaled_demand line span distance
published_gap = refl

-- with their gap, which is negative, they still aren't beaten
not_beaten : welfare common 1 (trades buyer_and_seller (500 ∷ 500 ∷ [])) ≤ℤ (welfare common 1 (trades buyer_and_seller (500 ∷ 499 ∷ [])) +ℤ pos common *ℤ gap_of (pos 429410830255 ∷ []) (trades buyer_and_seller (500 ∷ 499 ∷ [])))
unfolding common
not_beaten = rw (balanced_welfare, published_welfare, published_gap) (omega (arith, ints))
