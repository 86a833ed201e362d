use Rattle.order_book.proofs.NeedLaws.{filled_orders_need_less}
use Rattle.order_book.proofs.laws.filled_orders_need_less.Goals as goal

pub returns : goal.returns
returns c = filled_orders_need_less
