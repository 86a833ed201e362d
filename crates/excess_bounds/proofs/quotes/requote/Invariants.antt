use Rattle.std.proofs.Common.{◌≡◌, drop}
use Rattle.excess_bounds.specs.Private.{requoted, CanRequote}
use Rattle.excess_bounds.proofs.quotes.requote.Given as goal

abbrev pub invariant-loop-cell : goal.invariant-loop-cell
invariant-loop-cell l =
    (requoted l.quotes (drop l.cell-index l.cells) l.amount ≡ requoted l.fn.quotes l.cells l.amount)
    × CanRequote l.quotes (drop l.cell-index l.cells) l.amount
