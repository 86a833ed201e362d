use Rattle.std.proofs.Common.{arith}
use Rattle.std.specs.Int.{w128}
use Rattle.std.proofs.lemmas.Int.{ints, to_z-of_z}
use Rattle.order_book.proofs.BookNeeds.{most_units_fit}
use Rattle.order_book.proofs.book.Book.units_needed.Goals as goal

pub returns-clause-most : goal.returns-clause-most
returns-clause-most c =
    let same = to_z-of_z w128 c.needed.result (record { sfits = c.needed.type_inv }) in
    rw same (omega (arith, ints, c.needed.ensures.value, c.needed.ensures.most, most_units_fit c.args.account c.args.asset))
