use Rattle.wire_records.specs.Formats.{command_magic_of}
use Rattle.session_resume.proofs.Magics.{found_where}
use Rattle.session_resume.proofs.resume.is_command_file_of.Goals as goal

pub returns : goal.returns
returns c = found_where (command_magic_of c.args.version) c.args.bytes.now c.starts_with.result (rw c.command_magic.ensures at c.starts_with.ensures.value)
