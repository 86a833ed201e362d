use Rattle.line_records.proofs.OneReadings.{first_is_a_prefix}
use Rattle.line_records.proofs.laws.first_is_a_prefix.Goals as goal

pub returns : goal.returns
returns g c = λ version known. first_is_a_prefix version known _
