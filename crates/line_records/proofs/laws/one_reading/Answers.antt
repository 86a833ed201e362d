use Rattle.line_records.proofs.OneReadings.{one_reading}
use Rattle.line_records.proofs.laws.one_reading.Goals as goal

pub returns : goal.returns
returns g c = λ version known. one_reading version known _
