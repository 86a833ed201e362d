use Rattle.list_sums.proofs.SumLemmas.{int_sum_by-swap}
use Rattle.list_sums.proofs.laws.sums_exchange.Goals as goal

pub returns : goal.returns
returns g c = int_sum_by-swap
