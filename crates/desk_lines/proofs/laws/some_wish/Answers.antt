use Rattle.desk_lines.proofs.OneWishes.{some_wish}
use Rattle.desk_lines.proofs.laws.some_wish.Goals as goal

pub returns : goal.returns
returns c = some_wish
