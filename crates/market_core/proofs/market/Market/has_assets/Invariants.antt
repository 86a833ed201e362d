use Rattle.std.proofs.Common.{ℕ, ◌-◌, ◌<◌, ◌≤◌, length}
use Rattle.std.specs.Prelude.{slice_index_or}
use Rattle.weight_rows.specs.declared.entries.Entry.{Entry}
use Rattle.flow_accounts.specs.Balances.{IsAsset}
use Rattle.market_core.proofs.market.Market.has_assets.Given as goal

abbrev pub invariant-loop-entry : goal.invariant-loop-entry
invariant-loop-entry l = record {
  within : l.place ≤ length l.row;
  there : (k : ℕ) (d : Entry) → k < l.place → IsAsset l.self.balances (slice_index_or l.row k d).asset;
}

abbrev pub decreases-loop-entry : goal.decreases-loop-entry
decreases-loop-entry l = length l.row - l.place
