use Rattle.journal_records.proofs.Encoded.{batch_short}
use Rattle.journal_records.proofs.laws.batch_replies_fit.Goals as goal

pub returns : goal.returns
returns c = batch_short
