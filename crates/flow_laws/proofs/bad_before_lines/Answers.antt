use Rattle.flow_laws.proofs.EncodeLaws.{bad_before_lines}
use Rattle.flow_laws.proofs.bad_before_lines.Goals as goal

pub returns : goal.returns
returns c = bad_before_lines
