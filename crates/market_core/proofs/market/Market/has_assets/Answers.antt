use Rattle.std.proofs.Common.{refl, arith}
use Rattle.flow_accounts.specs.Balances.{IsAsset}
use Rattle.wire_records.proofs.EntryReads.{ended}
use Rattle.market_core.proofs.Placing.{read_within, one_more}
use Rattle.market_core.proofs.market.Market.has_assets.Goals as goal

pub loop-entry-smaller : goal.loop-entry-smaller
loop-entry-smaller c =
    let within = read_within c.args.row.now c.loop-entry.place c.in-Some.entry c.in-Some.ensures.value in
    omega (arith, within)

pub loop-entry-preserved : goal.loop-entry-preserved
loop-entry-preserved c =
    let within = read_within c.args.row.now c.loop-entry.place c.in-Some.entry c.in-Some.ensures.value in
    record {
      within = omega (arith, within);
      there = one_more (λ e. IsAsset c.args.self.now.balances e.asset) c.args.row.now c.loop-entry.place c.in-Some.entry c.in-Some.ensures.value c.loop-entry.invariant.there
          (rw (← c.self.view_is) (omega (arith, c.if-entry-count.false, c.assets-count.ensures.count)));
    }

pub returns : goal.returns
returns c =
    let all = ended c.args.row.now c.loop-entry.place c.in_default.ensures.value in
    (λ _ k d inside. c.loop-entry.invariant.there k d (omega (arith, inside, all)), λ _. refl)
