use Rattle.desk_privacy.proofs.Private.{first_letters_are_private}
use Rattle.desk_privacy.proofs.first_letters_are_private.Goals as goal

pub returns : goal.returns
returns c = first_letters_are_private c.one_wish.ensures
