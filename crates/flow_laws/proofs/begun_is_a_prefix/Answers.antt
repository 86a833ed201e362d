use Rattle.flow_laws.proofs.Prefixes.{begun_is_a_prefix}
use Rattle.flow_laws.proofs.begun_is_a_prefix.Goals as goal

pub returns : goal.returns
returns c = begun_is_a_prefix
