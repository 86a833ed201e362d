use Rattle.std.proofs.Common.{◌≡◌, ◌+◌, ◌<◌, ◌^◌, ℕ, List, length, refl, sym, ap, subst, arith}
use Rattle.market_rules.specs.Market.{IsConsistent}
use Rattle.desk_lines.specs.Hearing.{most_envelope}
use Rattle.desk_session.specs.States.{State}
use Rattle.desk_session.specs.Bounds.{IsWithin}
use Rattle.desk_session.specs.Said.{IsAnswered}
use Rattle.desk_session.proofs.Bounds.{said_within, room}
use Rattle.desk_keeping.specs.Private.{HostState, AnswersLong}
use Rattle.desk_keeping.proofs.Writing.{of_some_longer, long_answered}
use Rattle.desk_keeping.proofs.host.Host.answer_long.Goals as goal

pub hear_long-requires-clause-messages : goal.hear_long-requires-clause-messages
hear_long-requires-clause-messages c =
    let same : c.self.inside.session ≡ c.args.self.now.session = ap (λ (h : HostState). h.session) c.self.view_is in
    let consistent : IsConsistent c.args.self.now.session.market = subst (λ (s : State). IsConsistent s.market) same (subst IsConsistent c.market.ensures c.alloc-consistent.ensures.consistent) in
    let fits = room c.requires.room.0 c.args.self.now.session consistent c.requires.counted c.requires.room.1 (omega (arith, c.requires.room.2)) in
    subst (λ (s : State). s.talk.desks.total.messages + 1 < 2 ^ 64) (sym same) fits.2

pub returns-in-Ok-clause-room : goal.returns-in-Ok-clause-room
returns-in-Ok-clause-room c =
    let old = c.self.inside.session in
    let new = c.hear_long.new.self in
    subst (λ (h : HostState). (used : ℕ) → IsWithin used h.session → IsWithin (used + 1) new) c.self.view_is
    (λ used. of_some_longer most_envelope (λ line. IsAnswered old line new) (IsWithin used old → IsWithin (used + 1) new) c.in-Ok.ensures.said (λ line is. said_within used old new line is))

pub returns-in-Ok-clause-answers : goal.returns-in-Ok-clause-answers
returns-in-Ok-clause-answers c =
    let inside = c.self.inside in
    let old : HostState = record { session = inside.session; book = inside.book; group = inside.group; fresh = inside.fresh; told = inside.told; written = inside.written } in
    let new : HostState = record old { session = c.hear_long.new.self; told = c.text_count-self-inside.result } in
    subst (λ (h : HostState). (line : List ℕ) → most_envelope < length line → AnswersLong line h new) c.self.view_is
    (λ line long. long_answered old new line (c.in-Ok.ensures.said line long) refl refl refl refl)
