use Rattle.std.proofs.Common.{rules}
use Rattle.flow_accounts.proofs.Accounts.unit_withdrawal.Goals as goal

pub returns-then-from-free-clause-refused : goal.returns-then-from-free-clause-refused
returns-then-from-free-clause-refused c = search rules

pub less-requires : goal.less-requires
less-requires c = search rules

pub returns-clause-accepted : goal.returns-clause-accepted
returns-clause-accepted c = search rules
