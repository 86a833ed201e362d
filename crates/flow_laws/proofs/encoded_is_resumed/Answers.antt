use Rattle.flow_laws.proofs.EncodeLaws.{encoded_is_resumed}
use Rattle.flow_laws.proofs.encoded_is_resumed.Goals as goal

pub returns : goal.returns
returns c = encoded_is_resumed
