use Rattle.order_book.proofs.NeedLaws.{needs_are_small}
use Rattle.order_book.proofs.laws.needs_are_small.Goals as goal

pub returns : goal.returns
returns c = needs_are_small
