use Rattle.std.proofs.Common.{◌≡◌, vec_len, vec_capacity}
use Rattle.flow_orders.specs.Trades.{trades}
use Rattle.order_book.proofs.Filling.{IsFilledTo}
use Rattle.order_book.proofs.fill.fill_orders.Given as goal

abbrev pub invariant-loop-place : goal.invariant-loop-place
invariant-loop-place l = record {
  filled : IsFilledTo (trades l.initial.orders.items l.rates) l.orders.items l.kept l.place;
  len : vec_len l.orders ≡ vec_len l.initial.orders;
  capacity : vec_capacity l.orders ≡ vec_capacity l.initial.orders;
}
