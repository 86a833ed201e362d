use Rattle.wire_records.proofs.Readings.{command_read}
use Rattle.wire_records.proofs.laws.command_is_read.Goals as goal

pub returns : goal.returns
returns c = command_read
