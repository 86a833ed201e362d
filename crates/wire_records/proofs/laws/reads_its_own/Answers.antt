use Rattle.wire_records.proofs.Readings.{read_own}
use Rattle.wire_records.proofs.laws.reads_its_own.Goals as goal

pub returns : goal.returns
returns c = read_own
