use Rattle.weight_rows.proofs.FaultLemmas.{exact}
use Rattle.weight_rows.proofs.faults.row_fault.Goals as goal

pub returns-clause-exact : goal.returns-clause-exact
returns-clause-exact c = exact c.args.entries.now c.first_fault.result c.first_fault.ensures
