use Rattle.list_sums.proofs.SumLemmas.{unsigned_abs-int_sum_by}
use Rattle.list_sums.proofs.laws.sums_are_bounded.Goals as goal

pub returns : goal.returns
returns g c = unsigned_abs-int_sum_by
