use Rattle.wire_records.proofs.Readings.{command_short}
use Rattle.wire_records.proofs.laws.command_is_short.Goals as goal

pub returns : goal.returns
returns c = command_short
