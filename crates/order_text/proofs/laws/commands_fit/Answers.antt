use Rattle.order_text.proofs.Fitting.{commands_fit}
use Rattle.order_text.proofs.laws.commands_fit.Goals as goal

pub returns : goal.returns
returns c = commands_fit
