use Rattle.sample_summary.proofs.OneSummary.{one_summary}
use Rattle.sample_summary.proofs.laws.one_summary.Goals as goal

pub returns : goal.returns
returns c = one_summary
