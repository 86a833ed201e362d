use Rattle.std.proofs.Common.{◌≡◌, ◌++◌, ◌+◌, ◌-◌, ◌*◌, ◌≤◌, length, vec_len, vec_capacity}
use Rattle.sample_market.specs.Draws.{state_after}
use Rattle.sample_market.specs.Orders.{drawn_entries, drawn_row, after_row}
use Rattle.sample_market.proofs.orders.row.Given as goal

-- the legs so far, and those that are still to be drawn
abbrev pub invariant-loop-asset : goal.invariant-loop-asset
invariant-loop-asset l =
    let left = (l.first + l.count) - l.asset in
    record {
      from : l.first ≤ l.asset;
      row : drawn_row l.fn.draws ≡ l.entries.items ++ drawn_entries left l.asset l.draws;
      following : after_row l.fn.draws ≡ state_after (2 * left) l.draws;
      few : length l.entries.items + left ≤ 3;
      room : vec_len l.entries + left ≤ vec_capacity l.entries;
    }
