use Rattle.std.proofs.Common.{◌+◌, ℕ, ap, subst, sym, ◌∙◌}
use Rattle.journal_disk.specs.declared.fault.DiskFault.TheVariants.{Damaged}
use Rattle.journal_disk.specs.Ahead.{part_of}
use Rattle.journal_disk.specs.Pairs.{IsWholePair}
use Rattle.journal_disk.proofs.Framing.{entry_there, none_there}
use Rattle.journal_disk.proofs.journal.DiskJournal.take.Goals as goal

pub returns-in-Some-clause-taken : goal.returns-in-Some-clause-taken
returns-in-Some-clause-taken c = λ bytes piece at.
    let found = c.in-Some.ensures.some in
    let lent = c.part.ensures ∙ ap (λ (n : ℕ). part_of c.args.ahead.now (n + 5) c.args.count) c.self.view_is in
    entry_there c.args.self.now c.args.count c.args.ahead.now bytes piece c.requires.held at c.in-Some.pair found.0 (sym lent ∙ found.1)

pub returns-in-None-clause-damaged : goal.returns-in-None-clause-damaged
returns-in-None-clause-damaged c =
    let lent = c.part.ensures ∙ ap (λ (n : ℕ). part_of c.args.ahead.now (n + 5) c.args.count) c.self.view_is in
    let none = subst (λ l. ¬ IsWholePair l) lent c.in-None.ensures.none in
    (ap Damaged c.self.view_is, λ bytes piece at. none_there c.args.self.now c.args.count c.args.ahead.now bytes piece c.requires.held at none)
