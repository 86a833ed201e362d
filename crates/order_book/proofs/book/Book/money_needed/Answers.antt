use Rattle.std.proofs.Common.{arith}
use Rattle.std.specs.Int.{w128}
use Rattle.std.proofs.lemmas.Int.{ints, to_z-of_z}
use Rattle.order_book.specs.declared.sums.Need.TheVariants.{Money}
use Rattle.order_book.proofs.BookNeeds.{most_needed_fits}
use Rattle.order_book.proofs.book.Book.money_needed.Goals as goal

pub returns-clause-most : goal.returns-clause-most
returns-clause-most c =
    let same = to_z-of_z w128 c.needed.result (record { sfits = c.needed.type_inv }) in
    rw same (omega (arith, ints, c.needed.ensures.value, c.needed.ensures.most, most_needed_fits (Money c.args.account)))
