use Rattle.std.proofs.Common.{refl, replicate}
use Rattle.std.proofs.lemmas.List.{get_or-replicate}
use Rattle.flow_orders.specs.Residuals.{most_prices}
use Rattle.batch_certificate.specs.Weighing.{HasCounts}
use Rattle.batch_certificate.proofs.check.no_counts.Goals as goal

zeros : HasCounts most_prices (λ asset. 0) (replicate most_prices 0)
zeros = record { count = refl; each = λ asset inside. get_or-replicate most_prices asset 0 0 inside }

pub returns : goal.returns
returns c = zeros
