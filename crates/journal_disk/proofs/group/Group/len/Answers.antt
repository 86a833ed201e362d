use Rattle.std.proofs.Common.{length, ap, sym, ◌∙◌}
use Rattle.journal_disk.proofs.Grouping.{length-stored_in}
use Rattle.journal_disk.proofs.group.Group.len.Goals as goal

pub returns : goal.returns
returns c = c.len.ensures ∙ c.self.inside.buffer.ok.0 ∙ sym (length-stored_in c.self.inside.buffer.items) ∙ ap length c.self.view_is
