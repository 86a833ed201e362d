use Rattle.fill_caps.proofs.SettledBalances.{settles}
use Rattle.fill_caps.proofs.laws.settled_balances_settle.Goals as goal

pub returns : goal.returns
returns c = settles
