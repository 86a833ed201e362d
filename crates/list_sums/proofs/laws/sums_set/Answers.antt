use Rattle.list_sums.proofs.SumLemmas.{int_sum_by-set}
use Rattle.list_sums.proofs.laws.sums_set.Goals as goal

pub returns : goal.returns
returns g c = int_sum_by-set
