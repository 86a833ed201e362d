-- The welfare of one order at a rate of n/k units per batch, a fraction, and what the rate gains at a price.
--     Both are counted in parts of 1/(2 * rate * k * k) of a grain, so they are integers.
use Rattle.std.specs.Prelude.{ℕ, ◌*◌, ℤ, pos, ◌-ℤ◌, ◌*ℤ◌}
use Rattle.demand_curve.specs.Demand.{Terms, span}

-- the welfare of the rate n/k: the high limit for each unit, less span / (2 * rate) times the square of n/k
unfoldable pub scaled_welfare : Terms → ℕ → ℕ → ℤ
scaled_welfare t n k = pos (2 * t.rate * n * k) *ℤ t.high -ℤ pos (span t * n * n)

-- what the rate n/k costs at a price
unfoldable pub scaled_cost : Terms → ℕ → ℕ → ℤ → ℤ
scaled_cost t n k price = pos (2 * t.rate * n * k) *ℤ price

-- what the rate n/k gains at a price: its welfare less its cost
unfoldable pub scaled_gain : Terms → ℕ → ℕ → ℤ → ℤ
scaled_gain t n k price = scaled_welfare t n k -ℤ scaled_cost t n k price
