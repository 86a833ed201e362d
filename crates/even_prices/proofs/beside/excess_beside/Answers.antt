use Rattle.std.proofs.Common.{w32, ◌∙◌}
use Rattle.std.proofs.lemmas.Int.{to_z-of_z}
use Rattle.even_prices.proofs.Columns.{is_short, are_light, are_there, low_then, high_then}
use Rattle.even_prices.proofs.beside.excess_beside.Goals as goal

pub sum_beside-requires-clause-few : goal.sum_beside-requires-clause-few
sum_beside-requires-clause-few c = rw c.column.ensures (is_short _ _ c.requires.priced c.args.asset)

pub sum_beside-requires-clause-light : goal.sum_beside-requires-clause-light
sum_beside-requires-clause-light c = rw c.column.ensures (are_light _ _ c.requires.priced c.args.asset)

pub sum_beside-requires-clause-there : goal.sum_beside-requires-clause-there
sum_beside-requires-clause-there c = rw (c.column.ensures, c.quotes.ensures) (are_there _ _ c.requires.priced c.args.asset)

pub returns-clause-low : goal.returns-clause-low
returns-clause-low c =
    let grain = to_z-of_z w32 c.args.grain c.ranges.grain in
    rw (c.column.ensures, c.quotes.ensures, grain) at c.sum_beside.ensures.low ∙ low_then _ _ c.requires.priced c.args.asset c.requires.asset c.args.grain

pub returns-clause-high : goal.returns-clause-high
returns-clause-high c =
    let grain = to_z-of_z w32 c.args.grain c.ranges.grain in
    rw (c.column.ensures, c.quotes.ensures, grain) at c.sum_beside.ensures.high ∙ high_then _ _ c.requires.priced c.args.asset c.requires.asset c.args.grain
