use Rattle.std.proofs.Common.{◌≡◌, ◌-◌}
use Rattle.std.specs.List.{range_with_len}
use Rattle.flow_orders.specs.Excess.{is_unsettled}
use Rattle.flow_orders.specs.Walks.{first_that}
use Rattle.coordinate_search.proofs.searching.unsettled_between.Given as goal

abbrev pub invariant-loop-asset : goal.invariant-loop-asset
invariant-loop-asset l =
    let unsettled = is_unsettled l.work.orders l.work.prices in
    first_that unsettled (range_with_len l.first (l.end - l.first)) ≡ first_that unsettled (range_with_len l.asset (l.end - l.asset))
