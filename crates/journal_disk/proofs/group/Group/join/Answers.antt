use Rattle.std.proofs.Common.{◌++◌, ◌∷◌, [], List, ℕ, ap, sym, ◌∙◌}
use Rattle.std.proofs.lemmas.Bool.{false≢true}
use Rattle.journal_disk.specs.Groups.{stored_in}
use Rattle.journal_disk.proofs.Grouping.{after_first, added_after, stored_is, ends_unset}
use Rattle.journal_disk.proofs.group.Group.join.Goals as goal

pub invariant_of-self-2 : goal.invariant_of-self-2
invariant_of-self-2 c =
    ends_unset c.put_bytes.new.out.items (c.args.self.now ++ c.args.other.now)
    (added_after c.args.self.now c.set_last.new.buffer.items c.deref.result.now c.args.other.now c.put_bytes.new.out.items
    (c.set_last.ensures.set ∙ ap (λ (l : List ℕ). stored_in l ++ 1 ∷ []) c.in_ok-reserve.ensures.items ∙ ap (λ (l : List ℕ). l ++ 1 ∷ []) c.self.view_is)
    (after_first c.other.inside.buffer.items c.args.other.now c.deref.result.now c.other.view_is c.other.invariant c.deref.ensures.value (λ none. false≢true (sym c.if-is_empty.false ∙ c.is_empty.ensures.1 none)))
    c.put_bytes.ensures.written)

pub returns-clause-joined : goal.returns-clause-joined
returns-clause-joined c =
    stored_is c.put_bytes.new.out.items (c.args.self.now ++ c.args.other.now)
    (added_after c.args.self.now c.set_last.new.buffer.items c.deref.result.now c.args.other.now c.put_bytes.new.out.items
    (c.set_last.ensures.set ∙ ap (λ (l : List ℕ). stored_in l ++ 1 ∷ []) c.in_ok-reserve.ensures.items ∙ ap (λ (l : List ℕ). l ++ 1 ∷ []) c.self.view_is)
    (after_first c.other.inside.buffer.items c.args.other.now c.deref.result.now c.other.view_is c.other.invariant c.deref.ensures.value (λ none. false≢true (sym c.if-is_empty.false ∙ c.is_empty.ensures.1 none)))
    c.put_bytes.ensures.written)
