use Rattle.desk_lines.proofs.OneWishes.{one_wish}
use Rattle.desk_lines.proofs.laws.one_wish.Goals as goal

pub returns : goal.returns
returns c = one_wish
