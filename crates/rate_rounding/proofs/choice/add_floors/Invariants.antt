use Rattle.std.proofs.Common.{length}
use Rattle.rate_rounding.proofs.Floors.{AreLeft}
use Rattle.rate_rounding.proofs.choice.add_floors.Given as goal

abbrev pub invariant-loop-place : goal.invariant-loop-place
invariant-loop-place l = AreLeft (length l.quoted.prices.items) l.quoted.prices.items l.orders l.place l.residuals
