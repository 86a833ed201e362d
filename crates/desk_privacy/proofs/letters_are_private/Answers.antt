use Rattle.desk_privacy.proofs.Private.{letters_are_private}
use Rattle.desk_privacy.proofs.letters_are_private.Goals as goal

pub returns : goal.returns
returns c = letters_are_private c.one_wish.ensures
