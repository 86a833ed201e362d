use Rattle.std.proofs.Common.{◌≡◌, ◌++◌, map, take}
use Rattle.wire_records.specs.Views.{command_in}
use Rattle.line_records.specs.Lines.{encode_commands}
use Rattle.line_records.proofs.encode.put_records.Given as goal

abbrev pub invariant-loop-command : goal.invariant-loop-command
invariant-loop-command l = l.records.items ≡ l.fn.records.items ++ encode_commands (map command_in (take l.command-index l.commands))
