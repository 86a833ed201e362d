use Rattle.std.proofs.Common.{ap, ◌∙◌}
use Rattle.pair_text.specs.Appended.{Before}
use Rattle.desk_session.proofs.Telling.{on_both, one_said, still_ascend}
use Rattle.desk_session.proofs.talk.Talk.tell_fault.Goals as goal

pub invariant_of-self : goal.invariant_of-self
invariant_of-self c =
    still_ascend c.end.result c.tell_error-told.result _ _ _ _ _ _ c.self.invariant (ap (λ (b : Before). b.items) c.tell_error-told.ensures.before ∙ c.following-text.ensures.items)
    c.end.ensures.told c.end.ensures.right c.end.ensures.ended c.end.ensures.back

pub returns : goal.returns
returns c =
    rw (← c.self.view_is) (on_both c.end.result c.tell_error-told.result c.end.ensures.told c.end.ensures.right (rw c.fault_word.ensures at c.tell_error-told.ensures.told) c.end.ensures.ended
    (λ written tells ended. one_said _ _ _ _ _ _ _ _ _ _ c.self.invariant (ap (λ (b : Before). b.items) c.tell_error-told.ensures.before ∙ c.following-text.ensures.items) c.following-text.ensures.empty written tells ended))
