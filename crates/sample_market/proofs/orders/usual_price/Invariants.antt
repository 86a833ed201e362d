use Rattle.std.proofs.Common.{◌≡◌, ◌*◌, ◌^◌, ◌≤◌, take}
use Rattle.std.specs.Prelude.{unsigned_abs}
use Rattle.sample_market.specs.Orders.{usual_price}
use Rattle.sample_market.proofs.orders.usual_price.Given as goal

abbrev pub invariant-loop-entry : goal.invariant-loop-entry
invariant-loop-entry l = record {
  value : l.sum ≡ usual_price (take l.entry-index l.entries);
  bound : unsigned_abs l.sum ≤ l.entry-index * 2 ^ 57;
}
