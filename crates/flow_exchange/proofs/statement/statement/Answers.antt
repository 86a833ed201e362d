use Rattle.std.proofs.Common.{ℕ, ap}
use Rattle.flow_io.specs.Changes.{change}
use Rattle.history_words.specs.Histories.{at_first, over_history_from}
use Rattle.statement_word.specs.Stating.{statement, statement_begins}
use Rattle.statement_word.proofs.StatementLaws.{statement_is_exact}
use Rattle.flow_exchange.specs.declared.form.Form.TheVariants.{Statement}
use Rattle.flow_exchange.specs.Private.{no_statement}
use Rattle.flow_exchange.proofs.Words.{does, not_asked}
use Rattle.flow_exchange.proofs.StatementForm.{statement_form}
use Rattle.flow_exchange.proofs.statement.statement.Goals as goal

pub go_history_from-ended-requires : goal.go_history_from-ended-requires
go_history_from-ended-requires g c = record { exact = statement_is_exact }

pub returns : goal.returns
returns g c =
    let number = c.args.number in
    let source = change g.S.Source.rest g.S.Source.faults c.args.source.now c.go_history_from-ended.new.source in
    let out = change g.K.Sink.held g.K.Sink.faults c.args.out.now c.go_history_from-ended.new.out in
    let done = c.go_history_from-ended.ensures.does (statement_begins number).starts (λ market on made. ap (λ (k : ℕ). record { account = k; market = market }) made) in
    let task = over_history_from statement (at_first (statement_begins number)) in
    record {
      asked = rw c.statement_status.ensures (not_asked task (Statement number) c.args.limit no_statement (statement_form number) c.go_history_from-ended.result);
      does = rw c.statement_status.ensures (does task (Statement number) c.args.limit no_statement (statement_form number) c.go_history_from-ended.result source out (λ e. tt) done);
    }
