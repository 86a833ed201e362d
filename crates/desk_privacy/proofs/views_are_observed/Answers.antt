use Rattle.desk_privacy.proofs.Viewed.{views_are_observed}
use Rattle.desk_privacy.proofs.views_are_observed.Goals as goal

pub returns : goal.returns
returns c = views_are_observed
