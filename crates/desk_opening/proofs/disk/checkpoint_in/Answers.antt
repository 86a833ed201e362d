use Rattle.std.proofs.Common.{arith}
use Rattle.desk_opening.proofs.FirstEntries.{stored_none, stored_middle}
use Rattle.desk_opening.proofs.disk.checkpoint_in.Goals as goal

pub returns-then-stored-le-HEAD : goal.returns-then-stored-le-HEAD
returns-then-stored-le-HEAD c = λ begin is. stored_none c.args.stored.now begin c.if-stored-le-HEAD.true is

pub returns : goal.returns
returns c = λ begin is. stored_middle c.args.stored.now begin (λ few. omega (arith, few, c.if-stored-le-HEAD.false)) is
