use Rattle.std.proofs.Common.{◌<◌, ◌^◌, ◌∙◌, ap, pos, arith}
use Rattle.std.proofs.lemmas.Int.{to_z_pos}
use mir.Syntax.{w128}
use Rattle.order_book.specs.Book.{Book}
use Rattle.order_book.specs.Kept.{listed}
use Rattle.order_book.specs.Needs.{needed}
use Rattle.order_book.proofs.BookNeeds.{needed_most, most_needed_fits}
use Rattle.order_book.proofs.book.Book.needed.Goals as goal

pub overflow_cast-result : goal.overflow_cast-result
overflow_cast-result c =
    let most = needed_most c.args.need (listed c.self.inside) c.self.invariant.live in
    search (arith, c.get.ensures, c.self.invariant.sums c.args.need, most, most_needed_fits c.args.need)

pub returns-clause-value : goal.returns-clause-value
returns-clause-value c =
    let most = needed_most c.args.need (listed c.self.inside) c.self.invariant.live in
    let small : c.get.result < 2 ^ 127 = omega (arith, c.get.ensures, c.self.invariant.sums c.args.need, most, most_needed_fits c.args.need) in
    to_z_pos w128 c.get.result small ∙ ap pos (c.get.ensures ∙ c.self.invariant.sums c.args.need ∙ ap (λ (b : Book). needed c.args.need b.orders) c.self.view_is)

pub returns-clause-most : goal.returns-clause-most
returns-clause-most c = rw (← c.self.view_is) (needed_most c.args.need (listed c.self.inside) c.self.invariant.live)
