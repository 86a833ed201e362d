use Rattle.std.proofs.Common.{rules}
use Rattle.even_prices.proofs.testing.is_over_above.Goals as goal

pub returns : goal.returns
returns c = search rules
