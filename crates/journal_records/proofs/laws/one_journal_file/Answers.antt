use Rattle.wire_records.proofs.ReadingLaws.{reads_one, reads_some}
use Rattle.journal_records.specs.Formats.{journals}
use Rattle.journal_records.proofs.Files.{journals_readable}
use Rattle.journal_records.proofs.laws.one_journal_file.Goals as goal

pub returns : goal.returns
returns c = λ limit bytes.
    let found = reads_some journals journals_readable limit bytes in
    (found.0, found.1, λ s reads. reads_one journals journals_readable limit bytes s found.0 reads found.1)
