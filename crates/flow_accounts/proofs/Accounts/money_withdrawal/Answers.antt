use Rattle.std.proofs.Common.{rules}
use Rattle.flow_accounts.proofs.Accounts.money_withdrawal.Goals as goal

pub returns-then-amount-free-clause-accepted : goal.returns-then-amount-free-clause-accepted
returns-then-amount-free-clause-accepted c = search rules

pub returns-then-amount-free-clause-refused : goal.returns-then-amount-free-clause-refused
returns-then-amount-free-clause-refused c = search rules

pub returns-clause-accepted : goal.returns-clause-accepted
returns-clause-accepted c = search rules
