use Rattle.std.proofs.Common.{subst}
use Rattle.market_parts.specs.Parts.{HasOneForEach}
use Rattle.market_snapshot.proofs.ReadThere.{one_for_each}
use Rattle.market_snapshot.proofs.view.SnapshotViewMarketParts.version.Goals as goal

pub returns-clause-one_each : goal.returns-clause-one_each
returns-clause-one_each c = subst HasOneForEach c.self.view_is (one_for_each c.self.inside.layout c.self.inside.bytes.now c.self.inside.orders.items)
