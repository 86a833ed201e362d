-- The numbers and the rates of a published clearing.
use Rattle.std.specs.Prelude.{ℕ, List, map}
use Rattle.flow_orders.specs.Outcomes.{Fill, Clearing}

-- the numbers of the orders that a clearing lists
abbrev pub numbers_in : Clearing → List ℕ
numbers_in c = map (λ (f : Fill). f.order) c.fills

-- the rates that a clearing lists
abbrev pub rates_in : Clearing → List ℕ
rates_in c = map (λ (f : Fill). f.rate) c.fills
