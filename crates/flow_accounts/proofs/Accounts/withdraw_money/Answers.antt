use Rattle.std.proofs.Common.{refl, arith}
use Rattle.std.proofs.lemmas.Int.{ints}
use Rattle.flow_accounts.proofs.Accounts.withdraw_money.Goals as goal

pub change_money-requires-clause-within_credit : goal.change_money-requires-clause-within_credit
change_money-requires-clause-within_credit c = let accepted = c.in_ok-amount.ensures.accepted.0 refl in let amount = c.in_ok-amount.ensures.amount in omega (arith, ints)
