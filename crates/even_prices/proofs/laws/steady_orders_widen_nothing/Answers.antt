use Rattle.even_prices.proofs.EvenLaws.{steady_orders_widen_nothing}
use Rattle.even_prices.proofs.laws.steady_orders_widen_nothing.Goals as goal

pub returns : goal.returns
returns c = steady_orders_widen_nothing
