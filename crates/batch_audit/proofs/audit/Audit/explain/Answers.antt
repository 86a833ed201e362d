use Rattle.std.proofs.Common.{sym}
use Rattle.batch_audit.proofs.audit.Audit.explain.Goals as goal

pub returns-in_ok-finding_of-in-Some-clause-found : goal.returns-in_ok-finding_of-in-Some-clause-found
returns-in_ok-finding_of-in-Some-clause-found c =
    (rw c.self.view_is at c.in_ok-finding_of-in-Some.ensures.found) c.args.pair.now (sym c.asked-asked.ensures) (rw c.answered.ensures at c.in-Some.ensures)
