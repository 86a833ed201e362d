use Rattle.std.proofs.Common.{ap, subst, ◌∙◌}
use Rattle.std.specs.Prelude.{IfOk}
use Rattle.desk_lines.specs.Hearing.{IsHeard}
use Rattle.desk_lines.specs.Hearing as heard
use Rattle.desk_lines.specs.Wishes.{IsWish}
use Rattle.desk_lines.specs.Answers.{wish_in}
use Rattle.desk_session.specs.Talks.{Talk}
use Rattle.desk_session.specs.States.{State}
use Rattle.desk_session.specs.Said.{IsSaid}
use Rattle.desk_session.specs.Private.{IsLeft}
use Rattle.desk_session.specs.declared.lines.Said.TheVariants as said
use Rattle.desk_session.proofs.Left.{line_noise, line_other, line_from, said_counts, kept, on_kept, numbered}
use Rattle.desk_session.proofs.session.DeskSession.hear_line.Goals as goal

pub returns-in_ok-tell_no_envelope-in-Noise-clause-said : goal.returns-in_ok-tell_no_envelope-in-Noise-clause-said
returns-in_ok-tell_no_envelope-in-Noise-clause-said c =
    let inside = c.self.inside in
    let old : State = record { market = inside.market; talk = inside.talk; entries = inside.entries; entry = inside.entry.items } in
    let is : IsHeard inside.talk.desks c.args.line.now heard.Noise = rw (c.in-Noise.is, c.desks.ensures) at c.in_ok-hear.ensures.heard in
    subst (λ (s : State). IsSaid said.Done s c.args.line.now (record old { talk = c.tell_no_envelope.new.self })) c.self.view_is
    (line_noise old c.args.line.now c.skip_line-in-Noise.new.self c.tell_no_envelope.new.self c.skip_line-in-Noise.ensures is c.in_ok-tell_no_envelope-in-Noise.ensures)

pub returns-in_ok-tell_expected-in-Other-clause-said : goal.returns-in_ok-tell_expected-in-Other-clause-said
returns-in_ok-tell_expected-in-Other-clause-said c =
    let inside = c.self.inside in
    let old : State = record { market = inside.market; talk = inside.talk; entries = inside.entries; entry = inside.entry.items } in
    let is : IsHeard inside.talk.desks c.args.line.now (heard.Other c.in-Other.sender) = rw (c.in-Other.is, c.desks.ensures) at c.in_ok-hear.ensures.heard in
    subst (λ (s : State). IsSaid said.Done s c.args.line.now (record old { talk = c.tell_expected.new.self })) c.self.view_is
    (line_other old c.args.line.now c.skip_line-in-Other.new.self c.tell_expected.new.self c.skip_line-in-Other.ensures c.in-Other.sender is c.in_ok-tell_expected-in-Other.ensures)

said_from : (c : goal.After-answer) → IfOk c.answer.result (λ x. IsSaid x c.args.self.now c.args.line.now c.answer.new.self)
said_from c =
    let inside = c.self.inside in
    let old : State = record { market = inside.market; talk = inside.talk; entries = inside.entries; entry = inside.entry.items } in
    let sender = c.in-From.sender in
    let text = c.in-From.text.now in
    let t = c.count_line.new.self in
    let number = c.lines_of-number.result in
    let w = wish_in c.in_ok-wish-in-From.wish in
    let is : IsHeard inside.talk.desks c.args.line.now (heard.From sender text) = rw (c.in-From.is, c.desks.ensures) at c.in_ok-hear.ensures.heard in
    let wished : IsWish inside.market.version inside.market.tickers inside.talk.desks sender text w =
    rw (c.as_bytes.ensures.value, c.version.ensures.value, c.tickers.ensures.value, c.desks-in-From.ensures) at c.in_ok-wish-in-From.ensures.wish in
    let number_is = numbered inside.talk.desks c.args.line.now sender text number c.desks-in-From-2.result.now is (c.desks-in-From-2.ensures ∙ ap (λ (x : Talk). x.desks) c.count_line.ensures) c.lines_of-number.ensures.value in
    subst (λ (s : State). IfOk c.answer.result (λ x. IsSaid x s c.args.line.now c.answer.new.self)) c.self.view_is
    (kept c.answer.result (λ x. IsLeft x (record old { talk = t }) sender number w c.answer.new.self) (λ x. IsSaid x old c.args.line.now c.answer.new.self)
    (λ x left. line_from old c.args.line.now x t sender number text w c.answer.new.self is wished c.count_line.ensures number_is left) c.answer.ensures.said)

pub returns-in_ok-wish-in-From-clause-said : goal.returns-in_ok-wish-in-From-clause-said
returns-in_ok-wish-in-From-clause-said c = said_from c

pub returns-in_ok-wish-in-From-clause-counted : goal.returns-in_ok-wish-in-From-clause-counted
returns-in_ok-wish-in-From-clause-counted c =
    on_kept c.answer.result (λ x. IsSaid x c.args.self.now c.args.line.now c.answer.new.self) (λ x is. said_counts x c.args.self.now c.answer.new.self c.args.line.now c.requires.counted is) (said_from c)
