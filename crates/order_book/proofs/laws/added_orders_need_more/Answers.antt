use Rattle.order_book.proofs.NeedLaws.{added_orders_need_more}
use Rattle.order_book.proofs.laws.added_orders_need_more.Goals as goal

pub returns : goal.returns
returns c = added_orders_need_more
