use Rattle.std.proofs.Common.{[], arith}
use Rattle.wire_records.specs.Formats.{commands}
use Rattle.wire_records.proofs.Prefixes.{states_none-from_few}
use Rattle.wire_records.proofs.ReadingLaws.{file_read}
use Rattle.wire_records.proofs.RecordCode.{commands_readable}
use Rattle.wire_records.proofs.laws.file_is_read.Goals as goal

pub returns : goal.returns
returns c = λ limit version records each fits.
    file_read commands commands_readable (λ over. states_none-from_few over.0 [] (omega arith) over.1) limit version records tt each fits
