use Rattle.std.proofs.Common.{refl, arith}
use Rattle.std.proofs.lemmas.Int.{ints}
use Rattle.flow_accounts.proofs.Accounts.unit_deposit.Goals as goal

pub returns-then-from-gt-UNIT_LIMIT-clause-refused : goal.returns-then-from-gt-UNIT_LIMIT-clause-refused
returns-then-from-gt-UNIT_LIMIT-clause-refused c = (c.if-not-has_account.ensures.there.0 refl, c.if-not-has_asset.ensures.0 refl, omega arith, omega (arith, ints))

pub returns-clause-accepted : goal.returns-clause-accepted
returns-clause-accepted c = (λ _. record { account_there = c.if-not-has_account.ensures.there.0 refl; kind_there = c.if-not-has_asset.ensures.0 refl; not_zero = omega arith; within_limit = omega (arith, ints) }, λ _. refl)
