use Rattle.std.proofs.Common.{ℕ, ◌<◌}
use Rattle.flow_accounts.specs.Balances.{total_units_of}
use Rattle.flow_accounts.specs.Lawful.{IsUnitTotal}
use Rattle.market_parts.proofs.accounts.are_unit_totals.Given as goal

abbrev pub invariant-loop-asset : goal.invariant-loop-asset
invariant-loop-asset g l = (k : ℕ) → k < l.asset → IsUnitTotal (total_units_of (g.P.AccountParts.balances l.parts) k)
