use Rattle.std.proofs.Common.{◌≡◌, unsigned_abs, w64, arith}
use Rattle.std.proofs.lemmas.Int.{ints, to_z-of_z}
use Rattle.price_moves.proofs.Ends.{move_ends}
use Rattle.price_moves.proofs.moves.end_of_move.Goals as goal

pub returns-clause-moved : goal.returns-clause-moved
returns-clause-moved c =
    let price = to_z-of_z w64 c.price_in-price.result (record { sfits = c.price_in-price.type_inv }) in
    let end = to_z-of_z w64 c.moved_price.result (record { sfits = c.moved_price.type_inv }) in
    let size = rw (to_z-of_z w64 c.args.reach c.ranges.reach) at c.unsigned_abs.ensures.value in
    let some = c.requires.some in
    rw (end, rw price at c.moved_price.ensures, c.price_in-price.ensures.value)
    (move_ends _ _ _ _ (unsigned_abs c.args.reach) _ c.args.direction c.price_in-price.ensures.priced.each (omega (arith, ints, some)) c.requires.towards (rw size at c.move_amount-amount.ensures.end))
