use Rattle.journal_disk.proofs.OneList.{one_head}
use Rattle.journal_disk.proofs.laws.one_head.Goals as goal

pub returns : goal.returns
returns c = one_head
