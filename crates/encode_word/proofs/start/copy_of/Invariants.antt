use Rattle.std.proofs.Common.{◌≡◌, ◌-◌, length, take}
use Rattle.encode_word.proofs.start.copy_of.Given as goal

abbrev pub invariant-loop-ticker : goal.invariant-loop-ticker
invariant-loop-ticker l = l.tickers ≡ take (length l.tickers) l.fn.known

abbrev pub decreases-loop-ticker : goal.decreases-loop-ticker
decreases-loop-ticker l = length l.fn.known - length l.tickers
