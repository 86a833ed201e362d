use Rattle.wire_records.proofs.Readings.{reading_unique}
use Rattle.wire_records.proofs.laws.one_reading.Goals as goal

pub returns : goal.returns
returns c = reading_unique
