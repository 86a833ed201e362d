use Rattle.std.proofs.Common.{◌≡◌, take}
use Rattle.market_parts.specs.Tests.{order_at}
use Rattle.market_parts.proofs.rows.entries_at.Given as goal

abbrev pub invariant-loop-k : goal.invariant-loop-k
invariant-loop-k g l = l.list.items ≡ take l.k (order_at (g.P.MarketParts.parts l.parts) l.place).row
