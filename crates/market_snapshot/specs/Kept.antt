-- What the fields of a view of a checkpoint mean.
use Rattle.std.specs.Prelude.{◌≡◌, ◌≤◌, length}
use Rattle.byte_places.specs.Places.{unsigned_at}
use Rattle.wire_records.specs.Records.{AreBytes}
use Rattle.flow_orders.specs.Orders.{most_orders}
use Rattle.market_parts.specs.Parts.{Parts}
use Rattle.market_snapshot.specs.declared.view.SnapshotView.TheInside.{Inside}
use Rattle.market_snapshot.specs.Layout.{count_place, first_place, parts_at, IsLayout, AreOrders}

-- the parts that the bytes encode
abbrev pub parts_in : Inside → Parts
parts_in v = parts_at v.layout v.bytes.now v.orders.items

-- the bytes have this layout, and as many orders as they state, at most as many as a consistent market may have
pub record IsKept (v : Inside) : Type 0 where
  pub layout : IsLayout v.bytes.now v.layout
  pub orders : AreOrders v.bytes.now (first_place v.layout) v.end v.orders.items
  pub count : unsigned_at 4 (count_place v.layout) v.bytes.now ≡ length v.orders.items
  pub few : length v.orders.items ≤ most_orders
  pub bytes : AreBytes v.bytes.now
