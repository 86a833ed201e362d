use Rattle.weight_rows.proofs.FaultLemmas.{first_place_fault_is_row_fault}
use Rattle.weight_rows.proofs.laws.first_place_fault_is_row_fault.Goals as goal

pub returns : goal.returns
returns c = first_place_fault_is_row_fault
