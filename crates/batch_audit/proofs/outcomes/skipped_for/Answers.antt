use Rattle.std.proofs.Common.{rules}
use Rattle.batch_audit.proofs.outcomes.skipped_for.Goals as goal

pub returns-clause-outcome : goal.returns-clause-outcome
returns-clause-outcome c = search rules
