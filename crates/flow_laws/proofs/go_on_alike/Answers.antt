use Rattle.flow_laws.proofs.GoneOnAlike.{go_on_alike}
use Rattle.flow_laws.proofs.go_on_alike.Goals as goal

pub returns : goal.returns
returns c = go_on_alike
