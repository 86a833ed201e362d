use Rattle.answer_laws.proofs.TheEcho.{the_echo_is_the_command}
use Rattle.answer_laws.proofs.the_echo_is_the_command.Goals as goal

pub returns : goal.returns
returns c = the_echo_is_the_command
