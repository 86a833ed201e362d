use Rattle.std.proofs.Common.{rules}
use Rattle.ticker_table.proofs.table.TickerTable.fault.Goals as goal

pub returns-clause-full : goal.returns-clause-full
returns-clause-full c = search rules

pub returns-clause-none : goal.returns-clause-none
returns-clause-none c = search rules

pub returns-in-Some-clause-taken : goal.returns-in-Some-clause-taken
returns-in-Some-clause-taken c = search rules
