use Rattle.weight_rows.proofs.FaultLemmas.{first_fault_is_one}
use Rattle.weight_rows.proofs.laws.first_fault_is_one.Goals as goal

pub returns : goal.returns
returns c = first_fault_is_one
