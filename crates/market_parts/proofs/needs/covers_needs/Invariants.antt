use Rattle.std.proofs.Common.{ℕ, ◌+◌, ◌<◌}
use Rattle.market_parts.specs.Tests.{CoversAccount}
use Rattle.market_parts.proofs.needs.covers_needs.Given as goal

abbrev pub invariant-loop-place : goal.invariant-loop-place
invariant-loop-place l = (k : ℕ) → k < l.place → CoversAccount l.accounts l.book.orders (k + 1)
