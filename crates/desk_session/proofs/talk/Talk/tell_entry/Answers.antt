use Rattle.std.proofs.Common.{◌≡◌, OnOk, ap, subst, ◌∙◌}
use Rattle.wire_records.specs.Views.{command_of}
use Rattle.journal_records.specs.Views.{answer_of}
use Rattle.pair_text.specs.Appended.{Before}
use Rattle.desk_messages.specs.Messages.{opened_by}
use Rattle.desk_session.specs.Talks.{Talk, says_of}
use Rattle.desk_session.specs.Lines.{entry_messages}
use Rattle.desk_session.specs.Private.{segments}
use Rattle.desk_session.proofs.Telling.{on_both, one_said, still_ascend}
use Rattle.desk_session.proofs.talk.Talk.tell_entry.Goals as goal

pub invariant_of-self : goal.invariant_of-self
invariant_of-self c =
    still_ascend c.end.result c.tell_all-told.result _ _ _ _ _ _ c.self.invariant (ap (λ (b : Before). b.items) c.tell_all-told.ensures.before ∙ c.following-text.ensures.items)
    c.end.ensures.told c.end.ensures.right c.end.ensures.ended c.end.ensures.back

pub returns-clause-told : goal.returns-clause-told
returns-clause-told c =
    let answer = answer_of c.args.answer.now in
    let market = c.args.market.now in
    subst (λ (t : Talk). OnOk c.end.result (◌≡◌ {A = Talk} (record { desks = c.tell_all-told.new.desks; texts = segments 0 c.end.new.ends.items c.end.new.bytes.items })
    (says_of t (opened_by answer) (λ d. entry_messages d market market c.args.served.now.sender c.args.served.now.line c.args.served.now.entry (command_of c.args.command.now) answer)))) c.self.view_is
    (on_both c.end.result c.tell_all-told.result c.end.ensures.told c.end.ensures.right c.tell_all-told.ensures.told c.end.ensures.ended
    (λ written tells ended. one_said _ _ _ _ _ _ _ _ _ _ c.self.invariant (ap (λ (b : Before). b.items) c.tell_all-told.ensures.before ∙ c.following-text.ensures.items) c.following-text.ensures.empty written tells ended))
