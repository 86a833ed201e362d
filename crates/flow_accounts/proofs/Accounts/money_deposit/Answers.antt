use Rattle.std.proofs.Common.{rules}
use Rattle.flow_accounts.proofs.Accounts.money_deposit.Goals as goal

pub returns-then-total_money-amount-gt-MONEY_LIMIT-clause-accepted : goal.returns-then-total_money-amount-gt-MONEY_LIMIT-clause-accepted
returns-then-total_money-amount-gt-MONEY_LIMIT-clause-accepted c = search rules

pub returns-then-total_money-amount-gt-MONEY_LIMIT-clause-refused : goal.returns-then-total_money-amount-gt-MONEY_LIMIT-clause-refused
returns-then-total_money-amount-gt-MONEY_LIMIT-clause-refused c = search rules
