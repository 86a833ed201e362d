use Rattle.flow_io.specs.Changes.{change}
use Rattle.exit_status.specs.Statuses.{line_of}
use Rattle.exit_status.proofs.Noted.{written, cut_line}
use Rattle.flow_exchange.specs.declared.form.Form.TheVariants.{Run}
use Rattle.flow_exchange.proofs.Outcomes.{one_form}
use Rattle.flow_exchange.proofs.Dispatch.{serves_form, wants_form, paced_form, serves_none, promised}
use Rattle.flow_exchange.proofs.top.flow_limited.Goals as goal
use Rattle.flow_exchange.proofs.top.flow_limited.Goals.{in-Some, in-None}

pub returns-clause-serves : goal.returns-clause-serves
returns-clause-serves g c =
    let noted = written c.write_line.result (g.N.Sink.held c.args.notes.now) (g.N.Sink.held c.write_line.new.notes) (line_of c.match-form_of.status) (g.N.Sink.faults c.args.notes.now) (g.N.Sink.faults c.write_line.new.notes) c.write_line.ensures.written c.write_line.ensures.cause in
    let prefix = cut_line c.write_line.result (g.N.Sink.held c.args.notes.now) (g.N.Sink.held c.write_line.new.notes) (line_of c.match-form_of.status) c.write_line.ensures.written c.write_line.ensures.cut in
    elim c.match-form_of.branch [
      | in-Some w ↦
          let form = w.do_form-status.ensures in
          let line = rw w.status-is at noted in
          let some = rw w.status-is at prefix in
          rw (w.status-is, w.source-is, w.out-is) (serves_form c.args.limit _ w.in-Some.form w.do_form-status.result _ _ w.in-Some.ensures.form _ form.asked form.does line some)
      | in-None w ↦
          let line = rw w.status-is at noted in
          let some = rw w.status-is at prefix in
          rw (w.status-is, w.source-is, w.out-is) (serves_none c.args.limit _ _ _ _ w.in-None.ensures.none line some)
    ]

pub returns-clause-idle : goal.returns-clause-idle
returns-clause-idle g c = λ usage. elim c.match-form_of.branch [ in-Some w ↦ let form = w.do_form-status.ensures in absurd (form.asked (rw w.status-is at usage)) | in-None w ↦ (w.source-is, w.out-is) ]

pub returns-clause-allocates : goal.returns-clause-allocates
returns-clause-allocates g c = elim c.match-form_of.branch [
  | in-Some w ↦
      let form = w.do_form-status.ensures in
      rw (w.status-is, w.source-is, w.out-is) (wants_form c.args.limit _ w.in-Some.form w.do_form-status.result _ _ w.in-Some.ensures.form form.does)
  | in-None w ↦ λ other asks. absurd (w.in-None.ensures.none other asks)
]

pub returns-clause-promises : goal.returns-clause-promises
returns-clause-promises g c = λ form asks. promised form c.args.limit (g.S.Source.rest c.args.source.now)

pub returns-clause-paced : goal.returns-clause-paced
returns-clause-paced g c = elim c.match-form_of.branch [
  | in-Some w ↦
      let form = w.do_form-status.ensures in
      let source = change g.S.Source.rest g.S.Source.faults c.args.source.now w.do_form-status.new.source in
      let out = change g.K.Sink.held g.K.Sink.faults c.args.out.now w.do_form-status.new.out in
      rw (w.status-is, w.source-is, w.out-is) (paced_form c.args.limit _ w.in-Some.form w.do_form-status.result source out w.in-Some.ensures.form form.paced)
  | in-None w ↦ λ asks. absurd (w.in-None.ensures.none Run asks)
]

pub returns-clause-pieces : goal.returns-clause-pieces
returns-clause-pieces g c = elim c.match-form_of.branch [
  | in-Some w ↦ rw (w.status-is, w.out-is) (λ asks. w.do_form-status.ensures.pieces (one_form _ w.in-Some.form Run w.in-Some.ensures.form asks))
  | in-None w ↦ λ asks. absurd (w.in-None.ensures.none Run asks)
]
