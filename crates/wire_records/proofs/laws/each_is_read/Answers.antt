use Rattle.wire_records.proofs.Readings.{reading_some}
use Rattle.wire_records.proofs.laws.each_is_read.Goals as goal

pub returns : goal.returns
returns c = reading_some
