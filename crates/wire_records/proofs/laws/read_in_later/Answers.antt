use Rattle.wire_records.proofs.Readings.{seen_in_later}
use Rattle.wire_records.proofs.laws.read_in_later.Goals as goal

pub returns : goal.returns
returns c = seen_in_later
