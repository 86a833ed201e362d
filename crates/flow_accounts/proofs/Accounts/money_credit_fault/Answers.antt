use Rattle.std.proofs.Common.{rules}
use Rattle.flow_accounts.proofs.Accounts.money_credit_fault.Goals as goal

pub returns-clause-accepted : goal.returns-clause-accepted
returns-clause-accepted c = search rules
