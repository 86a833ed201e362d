-- Demands that are rounded down are roundings.
use Rattle.std.specs.Prelude.{slice_index_or}
use Rattle.demand_curve.proofs.RoundingLaws.{rounding_is_within_room}
use Rattle.flow_orders.specs.Orders.{IsOrder, terms_of}
use Rattle.flow_orders.specs.Excess.{price_for}
use Rattle.flow_orders.specs.Trades.{trades}
use Rattle.canonical_rule.specs.Canonical.{floor_rates}
use Rattle.flow_orders.proofs.TradeFacts.{All-trades}
use Rattle.canonical_rule.proofs.CanonicalIsAdmissible.{floors_are_roundings as floors_rounded}
use Rattle.rate_rounding.specs.Laws.{FloorsAreRoundings}

pub floors_are_roundings : FloorsAreRoundings
floors_are_roundings orders prices each =
    let rates = floor_rates orders prices in
    let rounded = floors_rounded orders each 0 prices in
    record {
      one_each = rounded.count;
      roundings = rounded.each;
      within_rooms = λ k d inside.
          let t = slice_index_or (trades orders rates) k d in
          rounding_is_within_room (terms_of t.order) (All-trades IsOrder orders rates each k d inside).terms (price_for prices t.order) t.traded (rounded.each k d inside);
    }
