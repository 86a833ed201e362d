use Rattle.std.proofs.Common.{◌<◌, take}
use Rattle.std.specs.Prelude.{All}
use Rattle.weight_rows.specs.declared.entries.Entry.{Entry}
use Rattle.market_parts.proofs.rows.are_assets.Given as goal

abbrev pub invariant-loop-entry : goal.invariant-loop-entry
invariant-loop-entry l = All (λ (e : Entry). e.asset < l.assets) (take l.entry-index l.entries)
