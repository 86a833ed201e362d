use Rattle.std.proofs.Common.{rules}
use Rattle.line_records.proofs.encode.write_records.Goals as goal

pub returns-clause-written : goal.returns-clause-written
returns-clause-written g c = search rules
