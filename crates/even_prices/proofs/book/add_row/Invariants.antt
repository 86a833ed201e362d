use Rattle.demand_curve.specs.Curve.{terms}
use Rattle.even_prices.specs.Sides.{part_on}
use Rattle.even_prices.proofs.Adding.{AreAdded}
use Rattle.even_prices.proofs.book.add_row.Given as goal

abbrev pub invariant-loop-entry : goal.invariant-loop-entry
invariant-loop-entry l = AreAdded (part_on l.side (terms l.curve) l.price) l.entry-items l.initial.sums l.entry-index l.sums
