-- Sums over the orders for each asset, as loops add them up.
use Rattle.std.specs.Prelude.{ℕ, ◌+◌, ◌^◌, ◌≤◌, ◌≡◌, ℤ, ◌+ℤ◌, unsigned_abs, List, length, All}
use Rattle.weight_rows.specs.declared.entries.Entry.{Entry}
use Rattle.weight_rows.specs.Rows.{weight_in, price_of}
use Rattle.flow_orders.specs.Orders.{Order}
use Rattle.flow_orders.specs.Residuals.{HasEach}
use Rattle.joint_prices.specs.Numbers.{Num}
use Rattle.joint_rounds.specs.OrderStates.{OrderState}
use Rattle.joint_rounds.specs.Rounds.{sum_with}

-- each sum has grown by what f makes of the asset's weight in a row
abbrev pub IsAdded : (ℤ → ℤ) → List Entry → List ℤ → List ℤ → Type 0
IsAdded f row old new = HasEach (length old) (λ a. price_of old a +ℤ f (weight_in row a)) new

-- each sum has grown by what the orders add to it
abbrev pub AreGathered : (ℕ → Order → OrderState → ℤ) → List Order → List OrderState → List ℤ → List ℤ → Type 0
AreGathered f os zs old new = HasEach (length old) (λ a. price_of old a +ℤ sum_with (f a) os zs) new

-- a number of a direction that is made flat
abbrev pub IsFlat : ℤ → Type 0
IsFlat c = unsigned_abs c ≤ 2 ^ 46

-- the memory of the rounds of n assets: each vector has its length
pub record HasRoom (n : ℕ) (sizes moves direction left flow turn : List Num) (flat : List ℤ) (sums : List ℤ) : Type 0 where
  pub size_count : length sizes ≡ n
  pub move_count : length moves ≡ n
  pub direction_count : length direction ≡ n
  pub left_count : length left ≡ n
  pub flow_count : length flow ≡ n
  pub turn_count : length turn ≡ n
  pub flat_count : length flat ≡ n
  pub sum_count : length sums ≡ n
  pub small : All IsFlat flat
