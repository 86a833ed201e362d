use Rattle.journal_records.proofs.Encoded.{cleared_pair_room}
use Rattle.journal_records.proofs.laws.cleared_pair_fits.Goals as goal

pub returns : goal.returns
returns c = cleared_pair_room
