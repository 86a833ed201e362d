-- The orders of a ladder: one for each drop of its rate.
use Rattle.std.specs.Prelude.{ℕ, ◌*◌, min, nat_lt, List, map, Bool}
use Rattle.std.specs.List.{filter}
use Rattle.weight_rows.specs.declared.entries.Entry.{Entry}
use Rattle.demand_curve.specs.Demand.{Terms}
use Rattle.flow_orders.specs.Orders.{Order, price_of_ticks}
use Rattle.wire_records.specs.Commands.{Request}
use Rattle.curve_ladder.specs.declared.points.Point.{Point}
use Rattle.curve_ladder.specs.declared.segment.Segment.{Segment}
use Rattle.curve_ladder.specs.Ladders.{Ladder, neighbours}
use Rattle.curve_ladder.specs.Values.{drop_between}

-- the rate falls from a point to the next one
abbrev pub is_drop : Point × Point → Bool
is_drop pair = nat_lt pair.1.rate pair.0.rate

-- the order of a drop: its limits are the prices of both points, its rate is the drop, and its cap is the drop times `turns`
abbrev pub segment_between : ℕ → Point × Point → Segment
segment_between turns pair = record {
  low = pair.0.price;
  high = pair.1.price;
  rate = drop_between pair.0 pair.1;
  cap = drop_between pair.0 pair.1 * turns;
}

-- the segments of a ladder, in ascending prices
abbrev pub segments_of : Ladder → List Segment
segments_of l = map (segment_between l.turns) (filter is_drop (neighbours l.points))

-- the curve of a segment's order before any fill, limits in grains: its batch maximum is the rate, or the cap if that is less
abbrev pub curve_of : Segment → Terms
curve_of s = record { low = price_of_ticks s.low; high = price_of_ticks s.high; rate = s.rate; room = min s.rate s.cap }

-- the curves of a ladder's orders
abbrev pub curves_of : Ladder → List Terms
curves_of l = map curve_of (segments_of l)

-- a segment's order as it is placed: nothing is filled, and there is no last batch
abbrev pub segment_order : ℕ → ℕ → List Entry → Segment → Order
segment_order number account row s = record {
  number = number;
  account = account;
  low = price_of_ticks s.low;
  high = price_of_ticks s.high;
  rate = s.rate;
  cap = s.cap;
  filled = 0;
  row = row;
  last = 0;
}

-- the request that places a segment's order
abbrev pub request_of : ℕ → List Entry → Segment → Request
request_of account row s =
    record { account = account; low = s.low; high = s.high; rate = s.rate; cap = s.cap; row = row }

-- the requests that place a ladder's orders, all with one weight vector
abbrev pub requests_of : Ladder → ℕ → List Entry → List Request
requests_of l account row = map (request_of account row) (segments_of l)

-- the curve of a requested order before any fill
abbrev pub curve_asked : Request → Terms
curve_asked r = record { low = price_of_ticks r.low; high = price_of_ticks r.high; rate = r.rate; room = min r.rate r.cap }
