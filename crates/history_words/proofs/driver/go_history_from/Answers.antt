use Rattle.std.proofs.Common.{◌≡◌, refl, ap, ◌∙◌}
use Rattle.flow_io.specs.Windows.{WindowState}
use Rattle.std.proofs.lemmas.Bool.{false≢true}
use Rattle.word_driver.proofs.Pieces.{blamed}
use Rattle.word_driver.proofs.Tasks.{does_not_begin}
use Rattle.journal_words.specs.Watching.{over_pairs}
use Rattle.history_words.specs.Histories.{at_first, over_history_from}
use Rattle.history_words.proofs.After.{does_after, does_not_flow, does_not_restore, does_not_read, does_not_open, was_read, may_run_out, wants_opening}
use Rattle.history_words.proofs.driver.go_history_from.Goals as goal

pub returns-in-Err : goal.returns-in-Err
returns-in-Err g c = record { does = λ starts made. does_not_begin (over_history_from (over_pairs g.P.OnPair.watch) (at_first (record { starts = starts; opens = g.H.OnHistory.opens c.args.history; Allocates = g.H.OnHistory.allocates c.args.history }))) c.args.limit (g.S.Source.rest c.args.source.now) (g.K.Sink.held c.args.out.now) (g.S.Source.faults c.args.source.now) (g.K.Sink.faults c.args.out.now) }

pub returns-in-Err-with_capacity : goal.returns-in-Err-with_capacity
returns-in-Err-with_capacity g c = record { does = λ starts made. does_not_begin (over_history_from (over_pairs g.P.OnPair.watch) (at_first (record { starts = starts; opens = g.H.OnHistory.opens c.args.history; Allocates = g.H.OnHistory.allocates c.args.history }))) c.args.limit (g.S.Source.rest c.args.source.now) (g.K.Sink.held c.args.out.now) (g.S.Source.faults c.args.source.now) (g.K.Sink.faults c.args.out.now) }

pub returns-in-Err-NotFlow : goal.returns-in-Err-NotFlow
returns-in-Err-NotFlow g c =
    let same : c.in-Ok.window.limit ≡ c.args.limit = ap (λ (w : WindowState). w.limit) c.in-Ok.ensures in
    let found = rw (c.in-Err-NotFlow.field-0-is, same) at c.in-Err-NotFlow.ensures.finds in
    let cause = rw c.in-Err-NotFlow.field-0-is at c.in-Err-NotFlow.ensures.cause in
    record { does = λ starts made. does_not_flow (over_pairs g.P.OnPair.watch) (at_first (record { starts = starts; opens = g.H.OnHistory.opens c.args.history; Allocates = g.H.OnHistory.allocates c.args.history })) c.requires.exact c.args.limit (g.S.Source.rest c.args.source.now) (g.S.Source.rest c.read_start.new.source) (g.S.Source.faults c.args.source.now) (g.S.Source.faults c.read_start.new.source) (g.K.Sink.held c.args.out.now) (g.K.Sink.faults c.args.out.now) found (cause.quiet (λ e. cc)) }

pub returns-in-Err-NoCheckpoint : goal.returns-in-Err-NoCheckpoint
returns-in-Err-NoCheckpoint g c =
    let same : c.in-Ok.window.limit ≡ c.args.limit = ap (λ (w : WindowState). w.limit) c.in-Ok.ensures in
    let found = rw (c.in-Err-NoCheckpoint.field-0-is, same) at c.in-Err-NoCheckpoint.ensures.finds in
    let cause = rw c.in-Err-NoCheckpoint.field-0-is at c.in-Err-NoCheckpoint.ensures.cause in
    record { does = λ starts made. does_not_restore (over_pairs g.P.OnPair.watch) (at_first (record { starts = starts; opens = g.H.OnHistory.opens c.args.history; Allocates = g.H.OnHistory.allocates c.args.history })) c.requires.exact c.args.limit (g.S.Source.rest c.args.source.now) (g.S.Source.rest c.read_start.new.source) (g.S.Source.faults c.args.source.now) (g.S.Source.faults c.read_start.new.source) (g.K.Sink.held c.args.out.now) (g.K.Sink.faults c.args.out.now) found (cause.quiet (λ e. cc)) }

pub returns-in-Err-Memory : goal.returns-in-Err-Memory
returns-in-Err-Memory g c =
    let same : c.in-Ok.window.limit ≡ c.args.limit = ap (λ (w : WindowState). w.limit) c.in-Ok.ensures in
    let found = rw (c.in-Err-Memory.field-0-is, same) at c.in-Err-Memory.ensures.finds in
    let cause = rw c.in-Err-Memory.field-0-is at c.in-Err-Memory.ensures.cause in
    record { does = λ starts made. may_run_out (over_pairs g.P.OnPair.watch) (at_first (record { starts = starts; opens = g.H.OnHistory.opens c.args.history; Allocates = g.H.OnHistory.allocates c.args.history })) c.requires.exact c.args.limit (g.S.Source.rest c.args.source.now) (g.S.Source.rest c.read_start.new.source) (g.S.Source.faults c.args.source.now) (g.S.Source.faults c.read_start.new.source) (g.K.Sink.held c.args.out.now) (g.K.Sink.faults c.args.out.now) found (cause.quiet (λ e. cc)) }

pub returns-in-Err-Read : goal.returns-in-Err-Read
returns-in-Err-Read g c =
    let same : c.in-Ok.window.limit ≡ c.args.limit = ap (λ (w : WindowState). w.limit) c.in-Ok.ensures in
    let found = rw (c.in-Err-Read.field-0-is, same) at c.in-Err-Read.ensures.finds in
    let cause = rw c.in-Err-Read.field-0-is at c.in-Err-Read.ensures.cause in
    record { does = λ starts made. does_not_read (over_pairs g.P.OnPair.watch) (at_first (record { starts = starts; opens = g.H.OnHistory.opens c.args.history; Allocates = g.H.OnHistory.allocates c.args.history })) c.requires.exact c.args.limit (g.S.Source.rest c.args.source.now) (g.S.Source.rest c.read_start.new.source) (g.S.Source.faults c.args.source.now) (g.S.Source.faults c.read_start.new.source) (g.K.Sink.held c.args.out.now) (g.K.Sink.faults c.args.out.now) found (record { later = cause.later; rose = λ e. cause.rose refl; quiet = λ not. absurd (not tt) }) }

pub returns-in-Err-begin : goal.returns-in-Err-begin
returns-in-Err-begin g c =
    let same : c.in-Ok.window.limit ≡ c.args.limit = ap (λ (w : WindowState). w.limit) c.in-Ok.ensures in
    let start = c.in-Ok-read_start.ensures in
    record { does = λ starts made. wants_opening (over_pairs g.P.OnPair.watch) (at_first (record { starts = starts; opens = g.H.OnHistory.opens c.args.history; Allocates = g.H.OnHistory.allocates c.args.history })) c.requires.exact c.args.limit (g.S.Source.rest c.args.source.now) (g.S.Source.rest c.read_start.new.source) (g.S.Source.faults c.args.source.now) (g.S.Source.faults c.read_start.new.source) c.read_start.new.window c.in-Ok-read_start.market start.finds (start.same.0 ∙ same) (start.cause.quiet (was_read c.in-Ok-read_start.market)) (g.K.Sink.held c.args.out.now) (g.K.Sink.faults c.args.out.now) c.in-Err-begin.ensures.wanted }

pub returns-in-Err-put : goal.returns-in-Err-put
returns-in-Err-put g c =
    let same : c.in-Ok.window.limit ≡ c.args.limit = ap (λ (w : WindowState). w.limit) c.in-Ok.ensures in
    let start = c.in-Ok-read_start.ensures in
    let cut = rw (c.deref.ensures.value, c.in-Ok-begin.ensures.opened) at c.in-Err-put.ensures.cut in
    record {
      does = λ starts made. does_not_open (over_pairs g.P.OnPair.watch) (at_first (record { starts = starts; opens = g.H.OnHistory.opens c.args.history; Allocates = g.H.OnHistory.allocates c.args.history })) c.requires.exact c.args.limit (g.S.Source.rest c.args.source.now) (g.S.Source.rest c.read_start.new.source) (g.S.Source.faults c.args.source.now) (g.S.Source.faults c.read_start.new.source) c.read_start.new.window c.in-Ok-read_start.market start.finds (start.same.0 ∙ same) (start.cause.quiet (was_read c.in-Ok-read_start.market))
          (g.K.Sink.held c.args.out.now) (g.K.Sink.held c.put.new.out) (g.K.Sink.faults c.args.out.now) (g.K.Sink.faults c.put.new.out) cut (blamed (g.K.Sink.faults c.args.out.now) (g.K.Sink.faults c.put.new.out) refl c.in-Err-put.ensures.cause);
    }

pub returns : goal.returns
returns g c =
    let same : c.in-Ok.window.limit ≡ c.args.limit = ap (λ (w : WindowState). w.limit) c.in-Ok.ensures in
    let start = c.in-Ok-read_start.ensures in
    let written = rw (c.deref.ensures.value, c.in-Ok-begin.ensures.opened) at c.in-Ok-put.ensures.written in
    record {
      does = λ starts made.
          let goes = rw (c.over-pairs.ensures.state, c.in-Ok-begin.ensures.market, made c.in-Ok-read_start.market c.in-Ok-begin.on c.in-Ok-begin.ensures.made) at c.go_on.ensures.goes in
          let done = does_after (over_pairs g.P.OnPair.watch) (at_first (record { starts = starts; opens = g.H.OnHistory.opens c.args.history; Allocates = g.H.OnHistory.allocates c.args.history })) c.requires.exact c.args.limit (g.S.Source.rest c.args.source.now) (g.S.Source.rest c.read_start.new.source) (g.S.Source.rest c.go_on.new.source)
          (g.S.Source.faults c.args.source.now) (g.S.Source.faults c.read_start.new.source) (g.S.Source.faults c.go_on.new.source) c.read_start.new.window c.in-Ok-read_start.market c.go_on.result _
          (g.K.Sink.held c.args.out.now) (g.K.Sink.held c.put.new.out) (g.K.Sink.held c.go_on.new.out) (g.K.Sink.faults c.args.out.now) (g.K.Sink.faults c.put.new.out) (g.K.Sink.faults c.go_on.new.out)
          start.finds (start.same.0 ∙ same) written (c.in-Ok-put.ensures.cause.quiet false≢true) goes (start.cause.quiet (was_read c.in-Ok-read_start.market)) c.go_on.ensures.reads c.go_on.ensures.writes in
          rw (← c.ended_after.ensures) at done;
    }
