use Rattle.journal_records.proofs.Encoded.{pair_unique}
use Rattle.journal_records.proofs.laws.one_pair.Goals as goal

pub returns : goal.returns
returns c = pair_unique
