use Rattle.std.proofs.Common.{◌≡◌, take}
use Rattle.account_statement.proofs.carried.copied_tickers.Given as goal

abbrev pub invariant-loop-asset : goal.invariant-loop-asset
invariant-loop-asset l = l.copy ≡ take l.asset l.tickers
