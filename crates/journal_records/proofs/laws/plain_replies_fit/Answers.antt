use Rattle.journal_records.proofs.Encoded.{plain_short}
use Rattle.journal_records.proofs.laws.plain_replies_fit.Goals as goal

pub returns : goal.returns
returns c = plain_short
