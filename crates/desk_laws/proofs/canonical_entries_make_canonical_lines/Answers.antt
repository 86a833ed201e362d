use Rattle.desk_laws.proofs.Again.{canonical_entries_make_canonical_lines}
use Rattle.desk_laws.proofs.canonical_entries_make_canonical_lines.Goals as goal

pub returns : goal.returns
returns c = canonical_entries_make_canonical_lines
