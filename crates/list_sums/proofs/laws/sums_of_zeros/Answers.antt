use Rattle.list_sums.proofs.SumLemmas.{int_sum_by-zeros}
use Rattle.list_sums.proofs.laws.sums_of_zeros.Goals as goal

pub returns : goal.returns
returns g c = int_sum_by-zeros
