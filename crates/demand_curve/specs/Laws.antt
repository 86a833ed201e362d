-- Laws of every demand curve. The functions of the module `laws` ensure these facts.
use Rattle.std.specs.Prelude.{◌≡◌, ℕ, ◌+◌, ◌-◌, ◌*◌, ◌/◌, ◌^◌, ◌<◌, ◌≤◌, ◌⊎◌, ◌↔◌, ℤ, pos, ◌+ℤ◌, ◌-ℤ◌, ◌*ℤ◌, ◌≤ℤ◌}
use Rattle.demand_curve.specs.Numbers.{distance}
use Rattle.std.specs.Int.{div_ceil}
use Rattle.demand_curve.specs.Demand.{Terms, IsWithin, IsWithinLimits, span, line, signed_line, scaled_demand, floor_rate, ceil_rate, floor_in, ceil_in, IsRounding, loss, scaled_dual, dual_floor}
use Rattle.demand_curve.specs.Welfare.{scaled_welfare, scaled_gain}

-- ---- the demand

-- the span is 2^32 to 2^61 grains, for all terms within the limits
abbrev pub SpanIsInRange : Type 0
SpanIsInRange = (t : Terms) → IsWithinLimits t → (2 ^ 32 ≤ span t) × (span t ≤ 2 ^ 61)

-- the demand at a price: from the high limit on, up to the low limit, with the line above the batch maximum or below it, and in general
pub record IsCutAtLimits (t : Terms) (price : ℤ) : Type 0 where
  pub none_above : t.high ≤ℤ price → scaled_demand t price ≡ 0
  pub whole_below : price ≤ℤ t.low → scaled_demand t price ≡ t.room * span t
  pub at_room : t.room * span t ≤ line t price → scaled_demand t price ≡ t.room * span t
  pub on_line : price ≤ℤ t.high → line t price ≤ t.room * span t → pos (scaled_demand t price) ≡ signed_line t price
  pub within_room : scaled_demand t price ≤ t.room * span t

-- the demand is none from the high limit on, the batch maximum up to where the line asks for less, and never more than it
abbrev pub DemandIsCutAtLimits : Type 0
DemandIsCutAtLimits = (t : Terms) → IsWithinLimits t → (price : ℤ) → IsCutAtLimits t price

-- the demand and its roundings at the higher of two prices are at most those at the lower one
pub record IsNoGreater (t : Terms) (lower higher : ℤ) : Type 0 where
  pub demand : scaled_demand t higher ≤ scaled_demand t lower
  pub floor : floor_rate t higher ≤ floor_rate t lower
  pub ceil : ceil_rate t higher ≤ ceil_rate t lower

-- neither the demand nor its roundings rise as the price rises
abbrev pub DemandNeverRises : Type 0
DemandNeverRises =
    (t : Terms) → IsWithinLimits t → (lower higher : ℤ) → lower ≤ℤ higher → IsNoGreater t lower higher

-- each grain by which the price rises lowers the demand by at most 1/256 of a unit
abbrev pub DemandMovesLittle : Type 0
DemandMovesLittle =
    (t : Terms) → IsWithinLimits t → (price : ℤ) (grains : ℕ)
    → 256 * scaled_demand t price ≤ 256 * scaled_demand t (price +ℤ pos grains) + grains * span t

-- ---- roundings of the demand

-- the demand is between its two roundings, each of which is less than 1 away from it
pub record IsEnclosed (t : Terms) (price : ℤ) : Type 0 where
  pub floor_below : floor_rate t price * span t ≤ scaled_demand t price
  pub floor_near : scaled_demand t price < floor_rate t price * span t + span t
  pub ceil_above : scaled_demand t price ≤ ceil_rate t price * span t
  pub ceil_near : ceil_rate t price * span t < scaled_demand t price + span t
  pub floor_first : floor_rate t price ≤ ceil_rate t price
  pub one_apart : ceil_rate t price ≤ floor_rate t price + 1
  pub within_room : ceil_rate t price ≤ t.room

-- both roundings enclose the demand and differ by at most one
abbrev pub RoundingsEncloseDemand : Type 0
RoundingsEncloseDemand = (t : Terms) → IsWithinLimits t → (price : ℤ) → IsEnclosed t price

-- the demand is x, a whole number of units
abbrev pub IsDemand : Terms → ℕ → ℤ → Type 0
IsDemand t x price = x * span t ≡ scaled_demand t price

-- both roundings are equal exactly if the demand is a whole number, and then they are the demand
pub record IsRoundedOnce (t : Terms) (price : ℤ) : Type 0 where
  pub equal_where_whole : (floor_rate t price ≡ ceil_rate t price) ↔ ((x : ℕ) × IsDemand t x price)
  pub both_are_demand : (x : ℕ) → IsDemand t x price → (floor_rate t price ≡ x) × (ceil_rate t price ≡ x)

-- a demand that is a whole number has one rounding
abbrev pub WholeDemandIsRoundedOnce : Type 0
WholeDemandIsRoundedOnce = (t : Terms) → IsWithinLimits t → (price : ℤ) → IsRoundedOnce t price

-- the roundings are the demand rounded down and the demand rounded up, and no others
abbrev pub RoundingsAreFloorAndCeil : Type 0
RoundingsAreFloorAndCeil =
    (t : Terms) → IsWithinLimits t → (price : ℤ) (x : ℕ)
    → IsRounding t x price ↔ ((x ≡ floor_rate t price) ⊎ (x ≡ ceil_rate t price))

-- a rounding is at most the batch maximum
abbrev pub RoundingIsWithinRoom : Type 0
RoundingIsWithinRoom =
    (t : Terms) → IsWithinLimits t → (price : ℤ) (x : ℕ) → IsRounding t x price → x ≤ t.room

-- a rounding at a price at which the demand is cut, to nothing or to the batch maximum, is the demand itself
pub record IsExactAtCuts (t : Terms) (x : ℕ) (price : ℤ) : Type 0 where
  pub none : t.high ≤ℤ price → x ≡ 0
  pub room : t.room * span t ≤ line t price → x ≡ t.room

-- every rounding at a price at which the demand is cut is the demand
abbrev pub RoundingIsExactAtCuts : Type 0
RoundingIsExactAtCuts =
    (t : Terms) → IsWithinLimits t → (price : ℤ) (x : ℕ) → IsRounding t x price → IsExactAtCuts t x price

-- the demand rounded down is above the demand rounded up at a higher price by at most 1/256 of a unit for each grain between
abbrev pub RoundingsMoveLittle : Type 0
RoundingsMoveLittle =
    (t : Terms) → IsWithinLimits t → (price : ℤ) (grains : ℕ)
    → 256 * floor_rate t price ≤ 256 * ceil_rate t (price +ℤ pos grains) + grains

-- ---- roundings of the demand in parts of a unit

-- the demand in parts is between its two roundings, and these are between the roundings in whole units
pub record IsEnclosedIn (parts : ℕ) (t : Terms) (price : ℤ) : Type 0 where
  pub floor_below : floor_in parts t price * span t ≤ parts * scaled_demand t price
  pub floor_near : parts * scaled_demand t price < floor_in parts t price * span t + span t
  pub ceil_above : parts * scaled_demand t price ≤ ceil_in parts t price * span t
  pub ceil_near : ceil_in parts t price * span t < parts * scaled_demand t price + span t
  pub floor_first : floor_in parts t price ≤ ceil_in parts t price
  pub one_apart : ceil_in parts t price ≤ floor_in parts t price + 1
  pub within_room : ceil_in parts t price ≤ parts * t.room
  pub whole_floor : parts * floor_rate t price ≤ floor_in parts t price
  pub whole_ceil : ceil_in parts t price ≤ parts * ceil_rate t price

-- both roundings in parts enclose the demand, and differ by at most one part
abbrev pub PartsEncloseDemand : Type 0
PartsEncloseDemand = (parts : ℕ) (t : Terms) → IsWithinLimits t → (price : ℤ) → IsEnclosedIn parts t price

-- neither rounding in parts rises as the price rises
abbrev pub PartsNeverRise : Type 0
PartsNeverRise =
    (parts : ℕ) (t : Terms) → IsWithinLimits t → (lower higher : ℤ) → lower ≤ℤ higher
    → (floor_in parts t higher ≤ floor_in parts t lower) × (ceil_in parts t higher ≤ ceil_in parts t lower)

-- rounded down, the demand in parts is above that rounded up at a higher price by at most 1/256 of a unit for each grain between
abbrev pub PartsMoveLittle : Type 0
PartsMoveLittle =
    (parts : ℕ) (t : Terms) → IsWithinLimits t → (price : ℤ) (grains : ℕ)
    → 256 * floor_in parts t price ≤ 256 * ceil_in parts t (price +ℤ pos grains) + parts * grains

-- in one part the roundings are those in whole units
abbrev pub OnePartIsAUnit : Type 0
OnePartIsAUnit = (t : Terms) (price : ℤ) → (floor_in 1 t price ≡ floor_rate t price) × (ceil_in 1 t price ≡ ceil_rate t price)

-- ---- the loss

-- the loss is 0 exactly if the rate is the demand
abbrev pub LossIsZeroAtDemand : Type 0
LossIsZeroAtDemand =
    (t : Terms) → IsWithinLimits t → (price : ℤ) (x : ℕ) → (loss t x price ≡ 0) ↔ IsDemand t x price

-- a rounding loses at most span / (2 * rate), rounded up, which is at most 2^60 grains
abbrev pub LossIsSmall : Type 0
LossIsSmall =
    (t : Terms) → IsWithinLimits t → (price : ℤ) (x : ℕ) → IsRounding t x price
    → (loss t x price ≤ div_ceil (span t) (2 * t.rate)) × (loss t x price ≤ 2 ^ 60)

-- ---- welfare

-- with y = n/k and e0 the line, 2 * rate * span * (what y gains) is e0 squared less (e0 - span * y) squared; both sides times k * k
abbrev pub GainIsDifferenceOfSquares : Type 0
GainIsDifferenceOfSquares =
    (t : Terms) (price : ℤ) (n k : ℕ)
    → let e0 : ℤ = signed_line t price *ℤ pos k in
    let rest : ℤ = e0 -ℤ pos (span t * n) in
    pos (span t) *ℤ scaled_gain t n k price ≡ e0 *ℤ e0 -ℤ rest *ℤ rest

-- a rounding and its loss together gain at least what any rate n/k within the batch maximum gains
abbrev pub LossCoversBestRate : Type 0
LossCoversBestRate =
    (t : Terms) → IsWithinLimits t → (price : ℤ) (x : ℕ) → IsRounding t x price
    → (n k : ℕ) → n ≤ k * t.room
    → scaled_gain t n k price
    ≤ℤ (pos (k * k) *ℤ (scaled_gain t x 1 price +ℤ pos (2 * t.rate * loss t x price)))

-- `LossCoversBestRate` in parts of 1/(M * k * k) of a grain, M being m times 2 * rate: in these the orders of a book add up
abbrev pub LossCoversBestRateInParts : Type 0
LossCoversBestRateInParts =
    (t : Terms) → IsWithinLimits t → (price : ℤ) (x : ℕ) → IsRounding t x price
    → (n k : ℕ) → n ≤ k * t.room
    → (m M : ℕ) → m * (2 * t.rate) ≡ M
    → (pos m *ℤ scaled_welfare t n k -ℤ pos (M * n * k) *ℤ price)
    ≤ℤ (pos (k * k) *ℤ (pos m *ℤ scaled_welfare t x 1 -ℤ pos (M * x) *ℤ price +ℤ pos (M * loss t x price)))

-- ---- the dual value

-- the dual value by cases, and in one formula with the signed line e0 and the demand e: e * (2 * e0 - e)
pub record HasDualValue (t : Terms) (price : ℤ) : Type 0 where
  pub none : t.high ≤ℤ price → dual_floor t price ≡ 0
  pub on_line : line t price ≤ t.room * span t
      → dual_floor t price ≡ (line t price * line t price) / (2 * t.rate * span t)
  pub at_room : t.room * span t < line t price
      → dual_floor t price ≡ t.room * distance t.high price - div_ceil (t.room * t.room * span t) (2 * t.rate)
  pub formula : pos (scaled_dual t price)
      ≡ pos (scaled_demand t price) *ℤ (pos 2 *ℤ signed_line t price -ℤ pos (scaled_demand t price))
  pub most : dual_floor t price ≤ t.room * distance t.high price
  pub small : IsWithin (2 ^ 78) price → dual_floor t price ≤ 2 ^ 103

-- the dual value is computed by cases
abbrev pub DualIsByCases : Type 0
DualIsByCases = (t : Terms) → IsWithinLimits t → (price : ℤ) → HasDualValue t price

-- no rate n/k within the batch maximum gains more than the dual value, and the demand itself gains it
pub record IsGreatestGain (t : Terms) (price : ℤ) : Type 0 where
  pub bound : (n k : ℕ) → n ≤ k * t.room
      → (pos (span t) *ℤ scaled_gain t n k price) ≤ℤ pos (k * k * scaled_dual t price)
  pub reached : pos (span t) *ℤ scaled_gain t (scaled_demand t price) (span t) price
      ≡ pos (span t * span t * scaled_dual t price)

-- the dual value is the greatest gain at a price
abbrev pub DualIsGreatestGain : Type 0
DualIsGreatestGain = (t : Terms) → IsWithinLimits t → (price : ℤ) → IsGreatestGain t price

-- when the price moves, the dual value falls by at least the move times the demand after it
abbrev pub DualFallsByDemand : Type 0
DualFallsByDemand =
    (t : Terms) → IsWithinLimits t → (before after : ℤ)
    → (pos (scaled_dual t after) +ℤ pos (2 * t.rate * scaled_demand t after) *ℤ (after -ℤ before))
    ≤ℤ pos (scaled_dual t before)

-- `DualFallsByDemand` in parts k times as fine: a k for each order makes the parts of all orders alike, so that they add up
abbrev pub DualFallsInParts : Type 0
DualFallsInParts =
    (t : Terms) → IsWithinLimits t → (before after : ℤ) (k : ℕ)
    → (pos (k * scaled_dual t after) +ℤ pos (k * (2 * t.rate * scaled_demand t after)) *ℤ (after -ℤ before))
    ≤ℤ pos (k * scaled_dual t before)

-- in parts of which a grain has N, the dual value is at least `dual_floor`, and less than one grain above it
abbrev pub DualFloorInParts : Type 0
DualFloorInParts =
    (t : Terms) → IsWithinLimits t → (price : ℤ) (k N : ℕ) → k * (2 * t.rate * span t) ≡ N → 1 ≤ N
    → (N * dual_floor t price ≤ k * scaled_dual t price) × (k * scaled_dual t price < N * dual_floor t price + N)

-- a price that moves by some grains lowers the dual value by at least the move times the demand before it, less half of the
-- move times what it may change the demand by
pub record IsSmooth (t : Terms) (price : ℤ) (grains : ℕ) : Type 0 where
  pub rise : scaled_dual t (price +ℤ pos grains) + 2 * t.rate * scaled_demand t price * grains ≤ scaled_dual t price + t.rate * grains * (t.rate * grains)
  pub fall : scaled_dual t (price -ℤ pos grains) ≤ scaled_dual t price + 2 * t.rate * scaled_demand t price * grains + t.rate * grains * (t.rate * grains)

-- the dual value is smooth
abbrev pub DualIsSmooth : Type 0
DualIsSmooth = (t : Terms) → IsWithinLimits t → (price : ℤ) (grains : ℕ) → IsSmooth t price grains
