use Rattle.std.proofs.Common.{take}
use Rattle.std.specs.Prelude.{All}
use Rattle.demand_curve.specs.Demand.{IsRounding}
use Rattle.flow_orders.specs.Orders.{terms_of}
use Rattle.flow_orders.specs.Excess.{price_for}
use Rattle.flow_orders.specs.Trades.{trades}
use Rattle.curve_checks.proofs.rates.are_roundings.Given as goal

abbrev pub invariant-loop-place : goal.invariant-loop-place
invariant-loop-place l = All (λ t. IsRounding (terms_of t.order) t.traded (price_for l.prices t.order)) (take l.place (trades l.orders l.rates))
