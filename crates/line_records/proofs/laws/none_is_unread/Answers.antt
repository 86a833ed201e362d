use Rattle.line_records.proofs.OneReadings.{none_is_unread}
use Rattle.line_records.proofs.laws.none_is_unread.Goals as goal

pub returns : goal.returns
returns g c = λ version known. none_is_unread version known _
