use Rattle.flow_laws.proofs.MagicsAfter.{torn_at_magics}
use Rattle.flow_laws.proofs.torn_at_magics.Goals as goal

pub returns : goal.returns
returns c = torn_at_magics
