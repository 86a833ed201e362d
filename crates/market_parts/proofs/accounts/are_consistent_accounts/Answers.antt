use Rattle.std.proofs.Common.{◌+◌, refl, arith}
use Rattle.market_parts.specs.Tests.{IsConsistentAccount}
use Rattle.market_parts.proofs.Below.{one_more, each_account, refuted}
use Rattle.market_parts.proofs.accounts.are_consistent_accounts.Goals as goal

pub loop-place-preserved : goal.loop-place-preserved
loop-place-preserved g c = one_more (λ k. IsConsistentAccount c.args.most (g.P.AccountParts.balances c.args.parts.now) (k + 1)) c.loop-place.place c.loop-place.invariant (c.is_consistent_account.ensures.0 c.if-not-is_consistent_account.false)

pub returns-then-not-is_consistent_account : goal.returns-then-not-is_consistent_account
returns-then-not-is_consistent_account g c = refuted c.is_consistent_account.ensures c.if-not-is_consistent_account.true (λ all. all (c.loop-place.place + 1) (omega arith, omega (arith, c.loop-place-test.true, c.account_count-place-end.ensures)))

pub returns : goal.returns
returns g c = (λ _. each_account (g.P.AccountParts.balances c.args.parts.now) (λ account. IsConsistentAccount c.args.most (g.P.AccountParts.balances c.args.parts.now) account) (λ k inside. c.loop-place.invariant k (omega (arith, inside, c.loop-place-test.false, c.account_count-place-end.ensures))), λ _. refl)
