use Rattle.desk_laws.proofs.Some.{first_lines_get_first_parts}
use Rattle.desk_laws.proofs.first_lines_get_first_parts.Goals as goal

pub returns : goal.returns
returns c = first_lines_get_first_parts c.one_hearing.ensures c.one_wish.ensures
