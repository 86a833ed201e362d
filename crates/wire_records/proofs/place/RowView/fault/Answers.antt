use Rattle.std.proofs.Common.{subst}
use Rattle.weight_rows.specs.Faults.{IsFaultOf}
use Rattle.weight_rows.proofs.FaultLemmas.{first_fault_is_one}
use Rattle.wire_records.proofs.place.RowView.fault.Goals as goal

pub returns-clause-exact : goal.returns-clause-exact
returns-clause-exact c = λ fault.
    let row = c.args.self.now in
    let found = c.first_fault in
    (λ same. subst (λ f. IsFaultOf row f) same found.ensures, λ other. first_fault_is_one row found.result fault found.ensures other)
