use Rattle.journal_records.proofs.Encoded.{answer_unique}
use Rattle.journal_records.proofs.laws.one_answer.Goals as goal

pub returns : goal.returns
returns c = answer_unique
