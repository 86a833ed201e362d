use Rattle.std.proofs.Common.{◌≡◌, ◌∙◌, to_z, of_z, unsigned_abs, arith}
use Rattle.std.specs.Int.{w64}
use Rattle.std.proofs.lemmas.Int.{ints, to_z-of_z, fits_signed_from_abs}
use Rattle.flow_orders.specs.Moves.{moved}
use Rattle.price_moves.proofs.Lowering.{move_lowers}
use Rattle.price_moves.proofs.moves.step_towards.Goals as goal

pub set_price-requires-clause-asset : goal.set_price-requires-clause-asset
set_price-requires-clause-asset c = rw c.end_of_move-end.ensures.stays c.requires.asset

pub returns-clause-orders : goal.returns-clause-orders
returns-clause-orders c = rw c.end_of_move-end.ensures.stays at c.set_price.ensures.orders

-- the prices are those after the move of the definitions
moves : (c : goal.After-set_price) → c.set_price.new.self.prices ≡ moved c.args.parts c.args.work.now.orders (unsigned_abs c.args.reach) c.args.work.now.prices c.args.asset
moves c =
    let range = c.end_of_move-end.ensures.range in
    let same : to_z w64 (of_z w64 c.end_of_move-end.result) ≡ c.end_of_move-end.result = to_z-of_z w64 c.end_of_move-end.result (fits_signed_from_abs w64 c.end_of_move-end.result (omega (arith, ints, range))) in
    rw (c.end_of_move-end.ensures.stays, same) at c.set_price.ensures.prices ∙ rw (to_z-of_z w64 c.args.reach c.ranges.reach) at c.end_of_move-end.ensures.moved

pub returns-clause-moved : goal.returns-clause-moved
returns-clause-moved c = moves c

pub returns-clause-lowers : goal.returns-clause-lowers
returns-clause-lowers c =
    let some = c.requires.some.le in
    move_lowers c.args.parts c.requires.some_parts c.args.work.now.orders c.args.work.now.prices c.args.asset (unsigned_abs c.args.reach) c.set_price.new.self.prices c.end_of_move-end.ensures.priced.each c.requires.asset (omega (arith, ints, some)) c.requires.unsettled (moves c)
