use Rattle.std.proofs.Common.{ℕ, ◌+◌, ◌<◌}
use Rattle.market_parts.specs.Tests.{IsConsistentAccount}
use Rattle.market_parts.proofs.accounts.are_consistent_accounts.Given as goal

abbrev pub invariant-loop-place : goal.invariant-loop-place
invariant-loop-place g l = (k : ℕ) → k < l.place → IsConsistentAccount l.most (g.P.AccountParts.balances l.parts) (k + 1)
