use Rattle.flow_laws.proofs.NoneBegins.{bad_is_unsound}
use Rattle.flow_laws.proofs.bad_is_unsound.Goals as goal

pub returns : goal.returns
returns c = bad_is_unsound
