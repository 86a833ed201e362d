use Rattle.list_sums.proofs.SumLemmas.{int_sum_by-le}
use Rattle.list_sums.proofs.laws.sums_keep_order.Goals as goal

pub returns : goal.returns
returns g c = int_sum_by-le
