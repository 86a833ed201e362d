use Rattle.batch_audit.proofs.Served.{is_no_command, is_batch_command}
use Rattle.batch_audit.proofs.change.Change.command.Goals as goal

pub returns-in-Nothing-clause-none : goal.returns-in-Nothing-clause-none
returns-in-Nothing-clause-none c = λ old read new changes command is. is_no_command read (rw c.in-Nothing.is at changes).0 command is

pub returns-in-Refused-clause-some : goal.returns-in-Refused-clause-some
returns-in-Refused-clause-some c = λ old read new changes. (rw c.in-Refused.is at changes).0

pub returns-in-Command-clause-some : goal.returns-in-Command-clause-some
returns-in-Command-clause-some c = λ old read new changes. (rw c.in-Command.is at changes).is_read

pub returns-in-Batch-clause-none : goal.returns-in-Batch-clause-none
returns-in-Batch-clause-none c = λ old read new changes command is. is_batch_command read (rw c.in-Batch.is at changes).asks command is
