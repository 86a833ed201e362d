-- What an order asks for at each price (its demand), what a rate in whole units loses against it, and what it is worth.
--     Prices, losses and values are in grains, rates in whole units per batch. A demand is a fraction over the span:
--     the line and the demand are counted in parts of 1/span of a unit, so they are integers, and never below 0.
use Rattle.std.specs.Prelude.{ℕ, ◌+◌, ◌-◌, ◌*◌, ◌/◌, ◌^◌, ◌<◌, ◌≤◌, ℤ, pos, neg_ℤ, ◌+ℤ◌, ◌-ℤ◌, ◌*ℤ◌, ◌≤ℤ◌, int_le, nat_le, if◌then◌else◌}
use Rattle.std.specs.Int.{abs_diff, div_ceil}
use Rattle.demand_curve.specs.Numbers.{distance}

-- the terms of an order: its two limit prices, its rate, and its batch maximum in this batch
pub record Terms : Type 0 where
  pub low : ℤ
  pub high : ℤ
  pub rate : ℕ
  pub room : ℕ

-- a number is at most `bound` away from 0
abbrev pub IsWithin : ℕ → ℤ → Type 0
IsWithin bound z = (neg_ℤ (pos bound) ≤ℤ z) × (z ≤ℤ pos bound)

-- the greatest rate of an order, in whole units per batch
abbrev pub most_rate : ℕ
most_rate = 2 ^ 24

-- the limits that the terms of every order are within; by them the span is at most 2^61 grains
pub record IsWithinLimits (t : Terms) : Type 0 where
  pub low_in_range : IsWithin (2 ^ 60) t.low
  pub high_in_range : IsWithin (2 ^ 60) t.high
  pub span_least : (t.low +ℤ pos (2 ^ 32)) ≤ℤ t.high
  pub room_least : 1 ≤ t.room
  pub room_most : t.room ≤ t.rate
  pub rate_most : t.rate ≤ most_rate

-- the distance from the low limit to the high one
unfoldable pub span : Terms → ℕ
span t = distance t.high t.low

-- what the line through the limits asks for before the batch maximum cuts it: nothing at the high limit, the rate a span below it
unfoldable pub line : Terms → ℤ → ℕ
line t price = t.rate * distance t.high price

-- what the line asks for if it is not cut at 0: less than nothing above the high limit
unfoldable pub signed_line : Terms → ℤ → ℤ
signed_line t price = pos t.rate *ℤ (t.high -ℤ price)

-- the demand: none at or above the high limit, the batch maximum if the line asks for that or more, else what the line asks for
unfoldable pub scaled_demand : Terms → ℤ → ℕ
scaled_demand t price =
    if int_le t.high price then 0 else
    (if nat_le (t.room * span t) (line t price) then t.room * span t else line t price)

-- the demand in whole units, rounded down
unfoldable pub floor_rate : Terms → ℤ → ℕ
floor_rate t price = scaled_demand t price / span t

-- the demand in whole units, rounded up
unfoldable pub ceil_rate : Terms → ℤ → ℕ
ceil_rate t price = div_ceil (scaled_demand t price) (span t)

-- the demand in parts of a unit, rounded down
unfoldable pub floor_in : ℕ → Terms → ℤ → ℕ
floor_in parts t price = (parts * scaled_demand t price) / span t

-- the demand in parts of a unit, rounded up
unfoldable pub ceil_in : ℕ → Terms → ℤ → ℕ
ceil_in parts t price = div_ceil (parts * scaled_demand t price) (span t)

-- a rate in whole units that is less than 1 above the demand and less than 1 below it
pub record IsRounding (t : Terms) (x : ℕ) (price : ℤ) : Type 0 where
  pub less_than_one_above : x * span t < scaled_demand t price + span t
  pub less_than_one_below : scaled_demand t price < x * span t + span t

-- what the rate x loses against the demand, in grains: the square of their distance times span / (2 * rate), rounded up
unfoldable pub loss : Terms → ℕ → ℤ → ℕ
loss t x price =
    let apart = abs_diff (x * span t) (scaled_demand t price) in
    div_ceil (apart * apart) (2 * t.rate * span t)

-- what an order gains by trading its demand e, with e0 the line: e * (2 * e0 - e), in parts of 1/(2 * rate * span) of a grain
unfoldable pub scaled_dual : Terms → ℤ → ℕ
scaled_dual t price = scaled_demand t price * (2 * line t price - scaled_demand t price)

-- the dual value: what an order gains by trading its demand, in grains, rounded down
unfoldable pub dual_floor : Terms → ℤ → ℕ
dual_floor t price = scaled_dual t price / (2 * t.rate * span t)
