use Rattle.list_sums.proofs.SumLemmas.{int_sum_by-sub}
use Rattle.list_sums.proofs.laws.sums_subtract.Goals as goal

pub returns : goal.returns
returns g c = int_sum_by-sub
