use Rattle.wire_records.proofs.Bodies.{command_unique}
use Rattle.wire_records.proofs.laws.one_command.Goals as goal

pub returns : goal.returns
returns c = command_unique
