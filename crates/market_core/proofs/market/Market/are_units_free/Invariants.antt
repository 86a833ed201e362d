use Rattle.std.proofs.Common.{ℕ, ◌*◌, ◌-◌, ◌<◌, ◌≤◌, pos, length, Some}
use Rattle.std.specs.Prelude.{slice_index_or, ◌≤ℤ◌}
use Rattle.weight_rows.specs.declared.entries.Entry.{Entry}
use Rattle.flow_orders.specs.Orders.{sold}
use Rattle.market_rules.specs.Market.{usable_balance}
use Rattle.market_core.proofs.market.Market.are_units_free.Given as goal

abbrev pub invariant-loop-entry : goal.invariant-loop-entry
invariant-loop-entry l = record {
  within : l.place ≤ length l.row;
  free : (k : ℕ) (d : Entry) → k < l.place → pos (sold (slice_index_or l.row k d).weight * l.cap) ≤ℤ usable_balance l.self l.account (Some (slice_index_or l.row k d).asset);
}

abbrev pub decreases-loop-entry : goal.decreases-loop-entry
decreases-loop-entry l = length l.row - l.place
