use Rattle.pair_text.proofs.Passed.{HasPassed}
use Rattle.pair_text.proofs.names.name_len.Given as goal

abbrev pub invariant-loop-place : goal.invariant-loop-place
invariant-loop-place l = HasPassed l.ticker l.place
