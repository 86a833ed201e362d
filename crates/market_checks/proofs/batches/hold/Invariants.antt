use Rattle.std.proofs.Common.{◌-◌}
use Rattle.market_checks.proofs.batches.hold.Given as goal

abbrev pub decreases-loop-market : goal.decreases-loop-market
decreases-loop-market l = l.count - l.market.batches
