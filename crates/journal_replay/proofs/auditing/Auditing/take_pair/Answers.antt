use Rattle.std.proofs.Common.{refl}
use Rattle.journal_replay.proofs.auditing.Auditing.take_pair.Goals as goal

pub returns-clause-counted : goal.returns-clause-counted
returns-clause-counted c = record { legal = rw c.in-Ok-Legal.field-0-is at c.in-Ok-Legal.ensures.judged; pairs = refl }
