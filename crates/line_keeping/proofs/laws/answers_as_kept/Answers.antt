use Rattle.line_keeping.proofs.AsKept.{answers_as_kept}
use Rattle.line_keeping.proofs.laws.answers_as_kept.Goals as goal

pub returns : goal.returns
returns c = answers_as_kept
