-- What an imbalance costs, as the loop over the assets adds it up.
use Rattle.std.specs.Prelude.{ℕ, ℤ, ◌*ℤ◌, List}
use Rattle.weight_rows.specs.Rows.{price_of}
use Rattle.flow_orders.specs.Residuals.{residual_in}

-- what the imbalance of an asset costs at its price, in grains
abbrev pub cost_at : List ℤ → List ℤ → ℕ → ℤ
cost_at prices residuals asset = price_of prices asset *ℤ residual_in residuals asset
