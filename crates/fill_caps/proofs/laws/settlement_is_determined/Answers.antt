use Rattle.fill_caps.proofs.Settled.{settled_balances_are_one}
use Rattle.fill_caps.proofs.laws.settlement_is_determined.Goals as goal

pub returns : goal.returns
returns c = settled_balances_are_one
