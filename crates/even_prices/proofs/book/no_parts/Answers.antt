use Rattle.std.proofs.Common.{refl, replicate, pos}
use Rattle.std.proofs.lemmas.List.{get_or-replicate}
use Rattle.flow_orders.specs.Residuals.{AreZeros, most_prices}
use Rattle.even_prices.proofs.book.no_parts.Goals as goal

zeros : AreZeros most_prices (replicate most_prices (pos 0))
zeros = record { count = refl; each = λ asset inside. get_or-replicate most_prices asset (pos 0) (pos 0) inside }

pub returns : goal.returns
returns c = zeros
