use Rattle.wire_records.specs.Formats.{commands}
use Rattle.wire_records.proofs.ReadingLaws.{starts_first}
use Rattle.wire_records.proofs.RecordCode.{commands_readable}
use Rattle.wire_records.proofs.laws.first_of_file.Goals as goal

pub returns : goal.returns
returns c = starts_first commands commands_readable
