use Rattle.desk_privacy.proofs.Written.{letters_are_written}
use Rattle.desk_privacy.proofs.letters_are_written.Goals as goal

pub returns : goal.returns
returns c = letters_are_written c.one_hearing.ensures c.one_wish.ensures
