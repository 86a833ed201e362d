use Rattle.order_book.proofs.NeedLaws.{cancelled_orders_need_nothing}
use Rattle.order_book.proofs.laws.cancelled_orders_need_nothing.Goals as goal

pub returns : goal.returns
returns c = cancelled_orders_need_nothing
