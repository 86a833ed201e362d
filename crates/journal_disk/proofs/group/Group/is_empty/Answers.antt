use Rattle.std.proofs.Common.{ℕ, ◌==◌, ap, ◌∙◌}
use Rattle.journal_disk.proofs.Grouping.{empty_is}
use Rattle.journal_disk.proofs.group.Group.is_empty.Goals as goal

pub returns : goal.returns
returns c =
    empty_is c.self.inside.buffer.items c.args.self.now c.is_empty.result c.self.view_is (c.is_empty.ensures ∙ ap (λ (n : ℕ). n == 0) c.self.inside.buffer.ok.0)
