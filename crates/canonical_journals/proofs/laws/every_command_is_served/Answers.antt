use Rattle.canonical_journals.proofs.LawProofs.{every_command_is_served}
use Rattle.canonical_journals.proofs.laws.every_command_is_served.Goals as goal

pub returns : goal.returns
returns c = every_command_is_served
