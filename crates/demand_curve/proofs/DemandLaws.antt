-- The laws of the demand.
use Rattle.std.proofs.Common.{◌≡◌, ℕ, ◌+◌, ◌*◌, ◌≤◌, ℤ, pos, ◌+ℤ◌, ◌-ℤ◌, ◌≤ℤ◌, refl, ap, ◌∙◌, arith}
use Rattle.std.proofs.Math.Nat.{mul-le-mul_left, mul-le-mul_right}
use Rattle.std.proofs.lemmas.Int.{ints}
use Rattle.demand_curve.specs.Numbers.{distance}
use Rattle.demand_curve.specs.Demand.{Terms, span, line, signed_line, scaled_demand}
use Rattle.demand_curve.specs.Laws.{SpanIsInRange, DemandIsCutAtLimits, DemandMovesLittle}
use Rattle.demand_curve.proofs.Distances.{distance_is}
use Rattle.demand_curve.proofs.Demands.{scaled_demand_is}
use Rattle.demand_curve.proofs.Limits.{span_least, span_most}

pub span_is_in_range : SpanIsInRange
span_is_in_range t h = (span_least t h, span_most t h)

-- from the high limit on, the line asks for nothing
pub line-none_above : (t : Terms) (price : ℤ) → t.high ≤ℤ price → line t price ≡ 0
unfolding line
line-none_above t price above =
    let none : distance t.high price ≡ 0 = omega (arith, ints, distance_is t.high price) in
    rw none (omega arith)

-- up to the low limit, the line asks for the full rate or more
pub line-rate_below : (t : Terms) (price : ℤ) → price ≤ℤ t.low → t.rate * span t ≤ line t price
unfolding line span
line-rate_below t price below =
    mul-le-mul_left t.rate (omega (arith, ints, distance_is t.high price, distance_is t.high t.low))

-- below the high limit the line is not cut at 0
pub line-signed : (t : Terms) (price : ℤ) → price ≤ℤ t.high → pos (line t price) ≡ signed_line t price
unfolding line signed_line
line-signed t price below =
    let far : pos (distance t.high price) ≡ t.high -ℤ price = omega (arith, ints, distance_is t.high price) in
    rw (← far) refl

pub demand_is_cut_at_limits : DemandIsCutAtLimits
demand_is_cut_at_limits t h price = record {
  none_above = λ above. omega (arith, scaled_demand_is t price, line-none_above t price above);
  whole_below = λ below. omega (arith, scaled_demand_is t price, line-rate_below t price below, mul-le-mul_right (span t) h.room_most);
  at_room = λ cut. omega (arith, scaled_demand_is t price);
  on_line = λ below free.
      let same : scaled_demand t price ≡ line t price = omega (arith, scaled_demand_is t price) in
      ap pos same ∙ line-signed t price below;
  within_room = omega (arith, scaled_demand_is t price);
}

-- the line at two prices
pub line-falls : (t : Terms) (lower higher : ℤ) → lower ≤ℤ higher → line t higher ≤ line t lower
unfolding line
line-falls t lower higher h =
    mul-le-mul_left t.rate (omega (arith, ints, distance_is t.high lower, distance_is t.high higher))

-- the demand at two prices
pub demand-falls : (t : Terms) (lower higher : ℤ) → lower ≤ℤ higher → scaled_demand t higher ≤ scaled_demand t lower
demand-falls t lower higher h =
    omega (arith, scaled_demand_is t lower, scaled_demand_is t higher, line-falls t lower higher h)

-- a grain lowers the line by at most the rate
line-steep : (t : Terms) (price : ℤ) (grains : ℕ) → line t price ≤ line t (price +ℤ pos grains) + grains * t.rate
unfolding line
line-steep t price grains =
    omega (arith, mul-le-mul_left t.rate (near t.high))
  where
    near : (high : ℤ) → distance high price ≤ distance high (price +ℤ pos grains) + grains
    near high = omega (arith, ints, distance_is high price, distance_is high (price +ℤ pos grains))

-- a grain lowers the demand by at most the rate
pub demand-steep : (t : Terms) (price : ℤ) (grains : ℕ) → scaled_demand t price ≤ scaled_demand t (price +ℤ pos grains) + grains * t.rate
demand-steep t price grains =
    omega (arith, scaled_demand_is t price, scaled_demand_is t (price +ℤ pos grains), line-steep t price grains)

pub demand_moves_little : DemandMovesLittle
demand_moves_little t h price grains =
    let gentle : 256 * t.rate ≤ span t = omega (arith, h.rate_most, span_least t h) in
    omega (arith, demand-steep t price grains, mul-le-mul_left grains gentle)
