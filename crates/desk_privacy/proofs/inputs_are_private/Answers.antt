use Rattle.desk_privacy.proofs.Private.{inputs_are_private}
use Rattle.desk_privacy.proofs.inputs_are_private.Goals as goal

pub returns : goal.returns
returns c = inputs_are_private c.one_wish.ensures
