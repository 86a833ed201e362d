use Rattle.std.proofs.Common.{◌<◌, arith}
use Rattle.std.proofs.lemmas.Bool.{ltb-true}
use Rattle.order_book.proofs.LiveOrders.{all_below}
use Rattle.order_book.proofs.gaps.are_below.Goals as goal

pub returns-in-Some : goal.returns-in-Some
returns-in-Some c below =
    let less : c.in-Some.last.now.number < c.args.number = omega (arith, ltb-true c.number.result c.args.number below, c.number.ensures.value) in
    all_below c.args.slots.now c.in-Some.last.now c.args.number c.requires (rw c.in-Some.is at c.last.ensures.value) less
