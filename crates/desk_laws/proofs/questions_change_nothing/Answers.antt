use Rattle.desk_laws.proofs.Owned.{questions_change_nothing}
use Rattle.desk_laws.proofs.questions_change_nothing.Goals as goal

pub returns : goal.returns
returns c = questions_change_nothing c.one_wish.ensures
