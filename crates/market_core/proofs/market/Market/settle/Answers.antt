use Rattle.std.proofs.Common.{◌<◌, refl}
use Rattle.wire_records.specs.Limits.{limits_of}
use Rattle.market_core.specs.Kept.{market_in}
use Rattle.market_rules.proofs.ConsistentBatch.{consistent-skipped}
use Rattle.market_core.proofs.market.Market.settle.Goals as goal

pub invariant_of-self : goal.invariant_of-self
invariant_of-self c =
    let more : c.self.inside.batches < (limits_of c.self.inside.version).batches = rw (← c.self.view_is) at c.requires.more in
    rw c.end.ensures.orders (consistent-skipped (market_in c.self.inside) c.self.invariant more)

pub returns-in-Skipped : goal.returns-in-Skipped
returns-in-Skipped c = rw (c.in-Skipped.is, ← c.self.view_is, c.end.ensures.orders) refl
