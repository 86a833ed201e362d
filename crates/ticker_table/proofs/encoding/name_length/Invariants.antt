use Rattle.std.proofs.Common.{take, All}
use Rattle.ticker_table.specs.Tickers.{IsNameCharacter}
use Rattle.ticker_table.proofs.encoding.name_length.Given as goal

abbrev pub invariant-loop-place : goal.invariant-loop-place
invariant-loop-place l = All IsNameCharacter (take l.place l.bytes)
