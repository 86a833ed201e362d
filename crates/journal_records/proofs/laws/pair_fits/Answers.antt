use Rattle.journal_records.proofs.Encoded.{pair_room}
use Rattle.journal_records.proofs.laws.pair_fits.Goals as goal

pub returns : goal.returns
returns c = pair_room
