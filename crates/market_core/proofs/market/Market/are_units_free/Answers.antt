use Rattle.std.proofs.Common.{◌*◌, pos, refl, arith, Some}
use Rattle.std.specs.Prelude.{◌≤ℤ◌}
use Rattle.flow_orders.specs.Orders.{sold}
use Rattle.wire_records.proofs.EntryReads.{ended}
use Rattle.market_rules.specs.Market.{usable_balance}
use Rattle.market_core.proofs.Placing.{read_within, one_more}
use Rattle.market_core.proofs.market.Market.are_units_free.Goals as goal

pub loop-entry-preserved : goal.loop-entry-preserved
loop-entry-preserved c =
    let within = read_within c.args.row.now c.loop-entry.place c.in-Some.entry c.in-Some.ensures.value in
    record {
      within = omega (arith, within);
      free = one_more (λ e. pos (sold e.weight * c.args.cap) ≤ℤ usable_balance c.args.self.now c.args.account (Some e.asset)) c.args.row.now c.loop-entry.place c.in-Some.entry c.in-Some.ensures.value c.loop-entry.invariant.free
          (c.is_free.ensures.0 c.if-not-is_free.false);
    }

pub returns : goal.returns
returns c =
    let all = ended c.args.row.now c.loop-entry.place c.in_default.ensures.value in
    (λ _ k d inside. c.loop-entry.invariant.free k d (omega (arith, inside, all)), λ _. refl)
