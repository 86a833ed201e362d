use Rattle.std.proofs.Common.{◌∙◌, ap}
use Rattle.journal_disk.specs.Groups.{stored_in}
use Rattle.journal_disk.proofs.Grouping.{none_stored}
use Rattle.journal_disk.proofs.group.Group.clear.Goals as goal

pub returns : goal.returns
returns c = ap stored_in c.clear.ensures.items ∙ none_stored
