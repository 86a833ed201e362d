use Rattle.journal_records.proofs.Encoded.{skipped_pair_room}
use Rattle.journal_records.proofs.laws.skipped_pair_fits.Goals as goal

pub returns : goal.returns
returns c = skipped_pair_room
