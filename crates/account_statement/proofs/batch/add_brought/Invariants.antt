use Rattle.std.proofs.Common.{◌≡◌, ◌<◌, ◌≤◌, ◌+ℤ◌, ℕ, length}
use Rattle.flow_orders.specs.Residuals.{residual_in}
use Rattle.account_statement.proofs.batch.add_brought.Given as goal

abbrev pub invariant-loop-asset : goal.invariant-loop-asset
invariant-loop-asset l =
    (length l.units ≡ length l.fn.units)
    × ((k : ℕ) → k < l.asset → residual_in l.units k ≡ residual_in l.fn.units k +ℤ residual_in l.brought k)
    × ((k : ℕ) → l.asset ≤ k → residual_in l.units k ≡ residual_in l.fn.units k)
