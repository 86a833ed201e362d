use Rattle.std.proofs.Common.{◌++◌, ◌∷◌, [], List, ℕ, length, ap, refl, ◌∙◌, arith}
use Rattle.journal_disk.specs.Entries.{framed}
use Rattle.journal_disk.specs.Groups.{stored_in}
use Rattle.journal_disk.proofs.Entries.{pair_short}
use Rattle.journal_disk.proofs.Grouping.{added_after, stored_is, ends_unset}
use Rattle.journal_disk.proofs.group.Group.push.Goals as goal

pub put_stored-requires-clause-short : goal.put_stored-requires-clause-short
put_stored-requires-clause-short c = omega (arith, pair_short c.requires.0 c.requires.1, ap length c.requires.2)

pub invariant_of-self-2 : goal.invariant_of-self-2
invariant_of-self-2 c =
    ends_unset c.put_stored.new.buffer.items (c.args.self.now ++ 1 ∷ framed c.args.pair.now)
    (added_after c.args.self.now c.set_last.new.buffer.items (framed c.args.pair.now ++ 0 ∷ []) (1 ∷ framed c.args.pair.now) c.put_stored.new.buffer.items
    (c.set_last.ensures.set ∙ ap (λ (l : List ℕ). stored_in l ++ 1 ∷ []) c.in_ok-reserve.ensures.items ∙ ap (λ (l : List ℕ). l ++ 1 ∷ []) c.self.view_is)
    refl c.put_stored.ensures.stored)

pub returns-clause-pushed : goal.returns-clause-pushed
returns-clause-pushed c =
    stored_is c.put_stored.new.buffer.items (c.args.self.now ++ 1 ∷ framed c.args.pair.now)
    (added_after c.args.self.now c.set_last.new.buffer.items (framed c.args.pair.now ++ 0 ∷ []) (1 ∷ framed c.args.pair.now) c.put_stored.new.buffer.items
    (c.set_last.ensures.set ∙ ap (λ (l : List ℕ). stored_in l ++ 1 ∷ []) c.in_ok-reserve.ensures.items ∙ ap (λ (l : List ℕ). l ++ 1 ∷ []) c.self.view_is)
    refl c.put_stored.ensures.stored)
