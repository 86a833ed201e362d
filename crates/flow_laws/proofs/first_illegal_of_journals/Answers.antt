use Rattle.flow_laws.proofs.AuditLaws.{first_illegal_of_journals}
use Rattle.flow_laws.proofs.first_illegal_of_journals.Goals as goal

pub returns : goal.returns
returns c = first_illegal_of_journals
