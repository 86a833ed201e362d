use Rattle.std.proofs.Common.{ap, ◌∙◌}
use Rattle.pair_text.specs.Appended.{Before}
use Rattle.desk_session.proofs.Telling.{on_both, one_said, still_ascend}
use Rattle.desk_session.proofs.talk.Talk.tell_answer.Goals as goal

pub invariant_of-self : goal.invariant_of-self
invariant_of-self c =
    still_ascend c.end.result c.put_answer-told.result _ _ _ _ _ _ c.self.invariant (ap (λ (b : Before). b.items) c.put_answer-told.ensures.before ∙ c.following-text.ensures.items)
    c.end.ensures.told c.end.ensures.right c.end.ensures.ended c.end.ensures.back

pub returns-clause-told : goal.returns-clause-told
returns-clause-told c =
    rw (← c.self.view_is) (on_both c.end.result c.put_answer-told.result c.end.ensures.told c.end.ensures.right c.put_answer-told.ensures.told c.end.ensures.ended
    (λ written tells ended. one_said _ _ _ _ _ _ _ _ _ _ c.self.invariant (ap (λ (b : Before). b.items) c.put_answer-told.ensures.before ∙ c.following-text.ensures.items) c.following-text.ensures.empty written tells ended))
