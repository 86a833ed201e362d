use Rattle.std.proofs.Common.{length, ap, sym, ◌∙◌}
use Rattle.journal_disk.proofs.Grouping.{length-stored_in, after_first}
use Rattle.journal_disk.proofs.group.Group.after_commit.Goals as goal

pub returns-clause-stored : goal.returns-clause-stored
returns-clause-stored c = after_first c.self.inside.buffer.items c.args.self.now c.deref.result.now c.self.view_is c.self.invariant c.deref.ensures.value

pub returns-clause-len : goal.returns-clause-len
returns-clause-len c = ap length c.deref.ensures.value ∙ sym (length-stored_in c.self.inside.buffer.items) ∙ ap length c.self.view_is
