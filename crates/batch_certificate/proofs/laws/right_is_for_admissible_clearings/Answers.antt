use Rattle.batch_certificate.proofs.OneVerdict.{right_is_for_admissible_clearings}
use Rattle.batch_certificate.proofs.laws.right_is_for_admissible_clearings.Goals as goal

pub returns : goal.returns
returns c = right_is_for_admissible_clearings
