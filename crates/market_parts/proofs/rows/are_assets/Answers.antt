use Rattle.std.proofs.Common.{◌<◌, pos, refl, subst}
use Rattle.std.specs.Prelude.{All}
use Rattle.std.proofs.lemmas.List.{take_all}
use Rattle.std.proofs.lemmas.List.Elements.{All-more}
use Rattle.weight_rows.specs.declared.entries.Entry.{Entry}
use Rattle.market_parts.proofs.rows.are_assets.Goals as goal

pub loop-entry-preserved : goal.loop-entry-preserved
loop-entry-preserved c = All-more (λ (e : Entry). e.asset < c.args.assets) c.args.entries.now c.loop-entry.entry-index (record { asset = 0; weight = pos 0 }) c.loop-entry-test.true c.loop-entry.invariant c.if-entry-assets.false

pub returns : goal.returns
returns c = (λ _. subst (All (λ (e : Entry). e.asset < c.args.assets)) (take_all c.loop-entry.entry-index c.args.entries.now c.loop-entry-test.false) c.loop-entry.invariant, λ _. refl)
