use Rattle.std.proofs.Common.{sym, subst, ap, ◌∙◌, arith}
use Rattle.wire_records.specs.Views.{command_in}
use Rattle.market_rules.specs.Market.{IsConsistent}
use Rattle.canonical_rule.specs.Canonical.{IsCanonicalOutcome}
use Rattle.journal_keeping.proofs.Turns.{is_whole}
use Rattle.desk_messages.specs.Desks.{IsThere}
use Rattle.desk_session.specs.States.{State, CountsAccounts}
use Rattle.desk_session.specs.Bounds.{IsWithin}
use Rattle.desk_session.proofs.Bounds.{room, answers_within}
use Rattle.desk_session.proofs.Answered.{answers_there}
use Rattle.desk_keeping.specs.Private.{HostState, ServesOne}
use Rattle.desk_keeping.proofs.Serving.{serves_one, serves_short, serves_plain}
use Rattle.desk_keeping.proofs.host.Host.serve.Goals as goal

pub serve-requires-clause-room : goal.serve-requires-clause-room
serve-requires-clause-room c =
    let same = ap (λ (h : HostState). h.session) c.self.view_is in
    let counted = subst CountsAccounts (sym same) c.requires.counted in
    let within = subst (IsWithin c.requires.room.0) (sym same) c.requires.room.1 in
    (room c.requires.room.0 c.self.inside.session (subst IsConsistent c.market.ensures c.alloc-consistent.ensures.consistent) counted within (omega (arith, c.requires.room.2))).0

pub push-requires : goal.push-requires
push-requires c = let s = c.in-Ok.ensures.served in is_whole s.0 c.entry.result.now s.1.fits (c.entry.ensures ∙ s.1.entry)

pub returns-clause-served : goal.returns-clause-served
returns-clause-served c =
    let i = c.self.inside in
    let h : HostState = record { session = i.session; book = i.book; group = i.group; fresh = i.fresh; told = i.told; written = i.written } in
    subst (λ (x : HostState). ServesOne c.args.sender c.args.line (command_in c.args.command.now) x (record h { session = c.serve.new.self; fresh = c.push.new.self })) c.self.view_is
    (serves_one h c.serve.new.self c.push.new.self c.entry.result.now c.args.sender c.args.line (command_in c.args.command.now) (subst IsConsistent c.market.ensures c.alloc-consistent.ensures.consistent) c.in-Ok.ensures.served c.entry.ensures c.in-Ok-push.ensures.pushed)

pub returns-clause-there : goal.returns-clause-there
returns-clause-there c =
    let same = ap (λ (h : HostState). h.session) c.self.view_is in
    let s = c.in-Ok.ensures.served in
    answers_there IsCanonicalOutcome c.self.inside.session c.serve.new.self c.args.sender c.args.line (command_in c.args.command.now) s.0 c.args.sender s.1.answers (subst (λ (x : State). IsThere x.talk.desks c.args.sender) (sym same) c.requires.there)

pub returns-clause-room : goal.returns-clause-room
returns-clause-room c =
    let same = ap (λ (h : HostState). h.session) c.self.view_is in
    let s = c.in-Ok.ensures.served in
    λ used within. answers_within IsCanonicalOutcome used c.self.inside.session c.serve.new.self c.args.sender c.args.line (command_in c.args.command.now) s.0 (subst IsConsistent c.market.ensures c.alloc-consistent.ensures.consistent)
    (subst CountsAccounts (sym same) c.requires.counted) s.1.answers (subst (IsWithin used) (sym same) within)

pub returns-clause-short : goal.returns-clause-short
returns-clause-short c =
    let same = ap (λ (h : HostState). h.fresh) c.self.view_is in
    rw (← same) (serves_short c.self.inside.session c.serve.new.self c.args.sender c.args.line (command_in c.args.command.now) c.self.inside.fresh c.push.new.self c.entry.result.now c.in-Ok.ensures.served c.entry.ensures c.in-Ok-push.ensures.pushed)

pub returns-clause-plain : goal.returns-clause-plain
returns-clause-plain c =
    let same = ap (λ (h : HostState). h.fresh) c.self.view_is in
    rw (← same) (serves_plain c.self.inside.session c.serve.new.self c.args.sender c.args.line (command_in c.args.command.now) c.self.inside.fresh c.push.new.self c.entry.result.now c.in-Ok.ensures.served c.entry.ensures c.in-Ok-push.ensures.pushed)
