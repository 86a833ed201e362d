use Rattle.wire_records.specs.Formats.{commands}
use Rattle.wire_records.proofs.ReadingLaws.{reads_one, reads_some}
use Rattle.wire_records.proofs.RecordCode.{commands_readable}
use Rattle.wire_records.proofs.laws.one_file.Goals as goal

pub returns : goal.returns
returns c = λ limit bytes.
    let found = reads_some commands commands_readable limit bytes in
    (found.0, found.1, λ s reads. reads_one commands commands_readable limit bytes s found.0 reads found.1)
