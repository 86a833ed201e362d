use Rattle.desk_privacy.proofs.Written.{first_letters_are_written}
use Rattle.desk_privacy.proofs.first_letters_are_written.Goals as goal

pub returns : goal.returns
returns c = first_letters_are_written
