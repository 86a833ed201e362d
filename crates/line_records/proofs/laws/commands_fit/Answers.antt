use Rattle.line_records.proofs.Fitting.{commands_fit}
use Rattle.line_records.proofs.laws.commands_fit.Goals as goal

pub returns : goal.returns
returns c = commands_fit
