use Rattle.std.proofs.Common.{All, take}
use Rattle.wire_records.specs.Views.{command_in}
use Rattle.desk_lines.specs.Rights.{MayAsk}
use Rattle.desk_lines.proofs.rights.may_ask_all.Given as goal

abbrev pub invariant-loop-command : goal.invariant-loop-command
invariant-loop-command l = All (λ command. MayAsk l.sender (command_in command)) (take l.command-index l.commands)
