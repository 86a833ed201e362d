use Rattle.flow_laws.proofs.DaysTogether.{days_are_one_history}
use Rattle.flow_laws.proofs.days_are_one_history.Goals as goal

pub returns : goal.returns
returns c = days_are_one_history
