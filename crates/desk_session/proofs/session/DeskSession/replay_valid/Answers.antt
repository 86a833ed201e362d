use Rattle.std.proofs.Common.{◌≡◌, ◌+◌, refl, sym, ap, subst, ◌∙◌}
use Rattle.std.proofs.lemmas.Bool.{false≢true}
use Rattle.wire_records.specs.Records.{AreEncoding}
use Rattle.wire_records.specs.CommandRecords.{record_of}
use Rattle.wire_records.specs.Views.{command_in}
use Rattle.journal_records.specs.Views.{answer_of}
use Rattle.desk_session.specs.States.{State, IsReplayed}
use Rattle.desk_session.specs.declared.session.Replayed.TheVariants.{Same}
use Rattle.desk_session.proofs.Answering.{record_written, replays, replayed_counts}
use Rattle.desk_session.proofs.session.DeskSession.replay_valid.Goals as goal

pub is_same-requires : goal.is_same-requires
is_same-requires c =
    let command = command_in c.args.command.now in
    (record_of command, record_written command c.clear.new.self.items c.deref.result.now c.in_ok-write_command.ensures.fits c.requires.short (c.deref.ensures.value ∙ c.in_ok-write_command.ensures.written) c.clear.ensures.items)

pub returns-then-not-is_same-clause-replayed : goal.returns-then-not-is_same-clause-replayed
returns-then-not-is_same-clause-replayed c =
    let command = command_in c.args.command.now in
    let there : AreEncoding (record_of command) c.deref.result.now =
    record_written command c.clear.new.self.items c.deref.result.now c.in_ok-write_command.ensures.fits c.requires.short (c.deref.ensures.value ∙ c.in_ok-write_command.ensures.written) c.clear.ensures.items in
    let same = c.is_same.ensures (record_of command) there in (
      λ is. false≢true (sym c.if-not-is_same.true ∙ same.1 (c.asked.ensures ∙ is)),
      λ illegal. illegal c.requires.change.new c.requires.change.legal,
      record {
        market = ap (λ (s : State). s.market) c.self.view_is;
        talk = ap (λ (s : State). s.talk) c.self.view_is;
        entries = ap (λ (s : State). s.entries) c.self.view_is;
      },
    )

replayed_same : (c : goal.In_ok-take) → IsReplayed Same c.args.self.now c.args.sender c.args.line (command_in c.args.command.now) c.args.pair.now
    (record { market = c.take.new.market; talk = c.take.new.talk; entries = c.self.inside.entries + 1; entry = c.write_command.new.out.items })
replayed_same c =
    let command = command_in c.args.command.now in
    let inside = c.self.inside in
    let there : AreEncoding (record_of command) c.deref.result.now =
    record_written command c.clear.new.self.items c.deref.result.now c.in_ok-write_command.ensures.fits c.requires.short (c.deref.ensures.value ∙ c.in_ok-write_command.ensures.written) c.clear.ensures.items in
    let same : c.args.pair.now.0 ≡ record_of command = sym c.asked.ensures ∙ (c.is_same.ensures (record_of command) there).0 c.if-not-is_same.false in
    subst (λ (s : State). IsReplayed Same s c.args.sender c.args.line command c.args.pair.now (record { market = c.take.new.market; talk = c.take.new.talk; entries = inside.entries + 1; entry = c.write_command.new.out.items })) c.self.view_is
    (replays inside.market c.take.new.market inside.talk c.take.new.talk inside.entries (inside.entries + 1) inside.entry.items c.write_command.new.out.items c.args.sender c.args.line command refl
    c.args.pair.now (answer_of c.args.seen.now) c.requires.seen same c.in_ok-take.ensures.legal (rw c.view-asked.ensures at c.in_ok-take.ensures.told))

pub returns-clause-replayed : goal.returns-clause-replayed
returns-clause-replayed c = replayed_same c

pub returns-clause-counted : goal.returns-clause-counted
returns-clause-counted c = replayed_counts c.args.self.now _ c.args.sender c.args.line (command_in c.args.command.now) c.args.pair.now c.requires.counted (replayed_same c)
