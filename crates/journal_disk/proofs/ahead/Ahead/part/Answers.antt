use Rattle.std.proofs.Common.{◌≡◌, ◌-◌, ◌+◌, take, drop, subst}
use Rattle.journal_disk.specs.Ahead.{AheadState, part_of}
use Rattle.journal_disk.proofs.Pieces.{copied}
use Rattle.journal_disk.proofs.ahead.Ahead.part.Goals as goal

pub returns : goal.returns
returns c =
    let first = c.args.place - c.self.inside.from in
    subst (λ (a : AheadState). take (first + c.args.count - first) (drop first c.deref.result.now) ≡ part_of a c.args.place c.args.count) c.self.view_is
    (copied c.self.inside.held.items c.deref.result.now first c.args.count c.deref.ensures.value)
