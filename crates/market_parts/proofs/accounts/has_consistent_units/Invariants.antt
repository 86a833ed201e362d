use Rattle.std.proofs.Common.{ℕ, ◌<◌}
use Rattle.flow_accounts.specs.Balances.{units_of, unit_credit_of}
use Rattle.market_parts.specs.Tests.{AreConsistentUnits}
use Rattle.market_parts.proofs.accounts.has_consistent_units.Given as goal

abbrev pub invariant-loop-asset : goal.invariant-loop-asset
invariant-loop-asset g l =
    let b = g.P.AccountParts.balances l.parts in
    (k : ℕ) → k < l.asset → AreConsistentUnits l.most (units_of b l.account k) (unit_credit_of b l.account k)
