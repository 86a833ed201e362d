use Rattle.std.proofs.Common.{◌≡◌, ◌+◌, refl, ◌∙◌}
use Rattle.wire_records.specs.CommandRecords.{record_of}
use Rattle.wire_records.specs.Views.{command_in, command_of}
use Rattle.journal_records.specs.Views.{answer_of}
use Rattle.line_keeping.proofs.Served.{on_ok, pair_of, pair_fits, record_first, is_right, told_as}
use Rattle.line_keeping.proofs.answering.Desk.serve.Goals as goal

pub view-requires-clause-written : goal.view-requires-clause-written
view-requires-clause-written c =
    record_first c.args.self.now.writer.session (record_of (command_in c.args.command.now)) c.serve_command.new.self c.serve_command.new.out.items c.deref.result.now c.in-Ok.ensures.served.answers c.deref.ensures.value

pub reply-requires : goal.reply-requires
reply-requires c =
    let old = c.args.self.now.writer.session in
    let asked = record_of (command_in c.args.command.now) in
    let served = c.in-Ok.ensures.served in
    (pair_of old asked c.serve_command.new.self c.serve_command.new.out.items served.answers, pair_fits old asked c.serve_command.new.self c.serve_command.new.out.items served.answers c.requires.next, c.deref-2.ensures.value ∙ served.answers.encoded, served.told_of)

pub report_served-requires-clause-served : goal.report_served-requires-clause-served
report_served-requires-clause-served c =
    let old = c.args.self.now.writer.session in
    let asked = record_of (command_in c.args.command.now) in
    let new = c.serve_command.new.self in
    let text = c.serve_command.new.out.items in
    let served = c.in-Ok.ensures.served in
    let same : answer_of c.reply.result ≡ served.answers.answer = c.reply.ensures (pair_of old asked new text served.answers) (pair_fits old asked new text served.answers c.requires.next) (c.deref-2.ensures.value ∙ served.answers.encoded) served.told_of in
    (old, rw (c.view.ensures, same, c.market.ensures.value) (is_right old asked new text served.answers c.market-market.ensures.consistent))

pub report_served-requires-clause-fits : goal.report_served-requires-clause-fits
report_served-requires-clause-fits c =
    let old = c.args.self.now.writer.session in
    let asked = record_of (command_in c.args.command.now) in
    let new = c.serve_command.new.self in
    let text = c.serve_command.new.out.items in
    let served = c.in-Ok.ensures.served in
    let fits = pair_fits old asked new text served.answers c.requires.next in
    let same : answer_of c.reply.result ≡ served.answers.answer = c.reply.ensures (pair_of old asked new text served.answers) fits (c.deref-2.ensures.value ∙ served.answers.encoded) served.told_of in
    (rw c.view.ensures served.fits, rw same fits.answer)

pub returns-clause-served : goal.returns-clause-served
returns-clause-served c =
    let old = c.args.self.now.writer.session in
    let command = command_in c.args.command.now in
    let asked = record_of command in
    let new = c.serve_command.new.self in
    let text = c.serve_command.new.out.items in
    let served = c.in-Ok.ensures.served in
    let pair = pair_of old asked new text served.answers in
    let fits = pair_fits old asked new text served.answers c.requires.next in
    let same : answer_of c.reply.result ≡ served.answers.answer = c.reply.ensures pair fits (c.deref-2.ensures.value ∙ served.answers.encoded) served.told_of in
    on_ok c.report_served.result _ _
    (λ told. (
      pair,
      record { asked = refl; step = served.answers.step; fits = fits },
      served.answers.encoded,
      told_as new c.market.result.now (c.args.self.now.entries + 1) command (command_of c.view.result) served.answers.answer (answer_of c.reply.result) c.clear-2.new.self.items c.report_served.new.out.items c.market.ensures.value c.view.ensures same c.clear-2.ensures.items told,
    ))
    c.report_served.ensures.reported
