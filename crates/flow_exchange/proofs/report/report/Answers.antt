use Rattle.flow_io.specs.Changes.{change}
use Rattle.history_words.specs.Histories.{over_history}
use Rattle.journal_words.specs.Words.{report}
use Rattle.journal_words.proofs.JournalLaws.{report_is_exact}
use Rattle.flow_exchange.specs.declared.form.Form.TheVariants.{Report}
use Rattle.flow_exchange.specs.Private.{rejected}
use Rattle.flow_exchange.proofs.Words.{does, not_asked}
use Rattle.flow_exchange.proofs.HistoryForms.{report_form, report_from}
use Rattle.flow_exchange.proofs.report.report.Goals as goal

pub go_history-ended-requires : goal.go_history-ended-requires
go_history-ended-requires g c = record { exact = report_is_exact; within = λ market. tt }

pub returns : goal.returns
returns g c =
    let source = change g.S.Source.rest g.S.Source.faults c.args.source.now c.go_history-ended.new.source in
    let out = change g.K.Sink.held g.K.Sink.faults c.args.out.now c.go_history-ended.new.out in
    let done = c.go_history-ended.ensures.does in
    record {
      asked = rw c.pairs_status.ensures (not_asked (over_history report report_from) Report c.args.limit rejected report_form c.go_history-ended.result);
      does = rw c.pairs_status.ensures (does (over_history report report_from) Report c.args.limit rejected report_form c.go_history-ended.result source out (λ e. tt) done);
    }
