use Rattle.std.proofs.Common.{sym}
use Rattle.list_sums.proofs.SumLemmas.{int_sum_by-scale}
use Rattle.list_sums.proofs.laws.sums_scale.Goals as goal

pub returns : goal.returns
returns g c f k xs = sym (int_sum_by-scale f k xs)
