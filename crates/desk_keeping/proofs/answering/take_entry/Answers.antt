use Rattle.std.proofs.Common.{subst, arith}
use Rattle.wire_records.specs.Views.{command_in}
use Rattle.market_rules.specs.Market.{IsConsistent}
use Rattle.flow_orders.specs.Outcomes.{IsAdmissibleOutcome}
use Rattle.desk_session.specs.States.{IsReplayed}
use Rattle.desk_session.specs.declared.session.Replayed.{Replayed}
use Rattle.desk_session.proofs.Bounds.{room, answers_within}
use Rattle.desk_session.proofs.Answered.{answers_there}
use Rattle.desk_keeping.proofs.answering.take_entry.Goals as goal

pub replay-requires-clause-room : goal.replay-requires-clause-room
replay-requires-clause-room c = (room c.requires.room.0 c.args.session.now (subst IsConsistent c.market.ensures c.alloc-consistent.ensures.consistent) c.requires.counted c.requires.room.1 (omega (arith, c.requires.room.2))).0

pub returns-in-Ok-Same-clause-there : goal.returns-in-Ok-Same-clause-there
returns-in-Ok-Same-clause-there c =
    let r = subst (λ (x : Replayed). IsReplayed x c.args.session.now c.args.sender c.args.line (command_in c.args.command.now) c.in-Ok.pair c.replay.new.self) c.in-Ok-Same.field-0-is c.in-Ok-Same.ensures.replayed in
    answers_there IsAdmissibleOutcome c.args.session.now c.replay.new.self c.args.sender c.args.line (command_in c.args.command.now) r.0 c.args.sender r.3 c.requires.there

pub returns-in-Ok-Same-clause-room : goal.returns-in-Ok-Same-clause-room
returns-in-Ok-Same-clause-room c =
    let r = subst (λ (x : Replayed). IsReplayed x c.args.session.now c.args.sender c.args.line (command_in c.args.command.now) c.in-Ok.pair c.replay.new.self) c.in-Ok-Same.field-0-is c.in-Ok-Same.ensures.replayed in
    λ used within. answers_within IsAdmissibleOutcome used c.args.session.now c.replay.new.self c.args.sender c.args.line (command_in c.args.command.now) r.0 (subst IsConsistent c.market.ensures c.alloc-consistent.ensures.consistent) c.requires.counted r.3 within
