use Rattle.desk_laws.proofs.Again.{canonical_lines_are_valid}
use Rattle.desk_laws.proofs.canonical_lines_are_valid.Goals as goal

pub returns : goal.returns
returns c = canonical_lines_are_valid
