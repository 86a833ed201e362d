use Rattle.market_rules.proofs.Promised.{legal_journal_keeps_promises}
use Rattle.market_rules.proofs.laws.legal_journals_keep_promises.Goals as goal

pub returns : goal.returns
returns c = legal_journal_keeps_promises
