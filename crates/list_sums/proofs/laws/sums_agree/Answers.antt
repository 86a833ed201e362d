use Rattle.list_sums.proofs.SumLemmas.{int_sum_by-same_all}
use Rattle.list_sums.proofs.laws.sums_agree.Goals as goal

pub returns : goal.returns
returns g c = int_sum_by-same_all
