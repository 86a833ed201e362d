use Rattle.std.proofs.Common.{refl, ap, ◌∙◌}
use Rattle.flow_io.specs.Changes.{change}
use Rattle.flow_io.specs.Windows.{WindowState}
use Rattle.flow_io.specs.declared.window.InputEnd.TheVariants.{Source, Limit}
use Rattle.file_units.proofs.Gone.{went_well}
use Rattle.word_driver.specs.Does.{task}
use Rattle.word_driver.proofs.Tasks.{does_not_begin}
use Rattle.word_driver.proofs.Whole.{does, does_not_flow, does_not_read}
use Rattle.word_driver.proofs.Pieces.{blamed}
use Rattle.word_driver.proofs.Puts.{puts_nothing}
use Rattle.word_driver.proofs.driver.go.Goals as goal

pub returns-in-Err : goal.returns-in-Err
returns-in-Err g c = record { does = does_not_begin (task g.W.ServesWord.word (g.W.ServesWord.start c.args.word)) c.args.limit (g.S.Source.rest c.args.source.now) (g.K.Sink.held c.args.out.now) (g.S.Source.faults c.args.source.now) (g.K.Sink.faults c.args.out.now); pieces = puts_nothing g.W.ServesWord.word (g.W.ServesWord.start c.args.word) g.K.Sink.calls g.K.Sink.held c.args.out.now }

pub returns-in-Err-with_capacity : goal.returns-in-Err-with_capacity
returns-in-Err-with_capacity g c = record { does = does_not_begin (task g.W.ServesWord.word (g.W.ServesWord.start c.args.word)) c.args.limit (g.S.Source.rest c.args.source.now) (g.K.Sink.held c.args.out.now) (g.S.Source.faults c.args.source.now) (g.K.Sink.faults c.args.out.now); pieces = puts_nothing g.W.ServesWord.word (g.W.ServesWord.start c.args.word) g.K.Sink.calls g.K.Sink.held c.args.out.now }

pub returns-in-Ok-Enough : goal.returns-in-Ok-Enough
returns-in-Ok-Enough g c =
    let W = g.W.ServesWord in
    let filled = c.in-Ok-Enough.ensures in
    let fills = rw c.in-Ok.ensures at filled.fills in
    let new = ap (λ (w : WindowState). w.over) c.in-Ok.ensures in
    record {
      does = does W.word (W.start c.args.word) c.requires.exact c.args.limit (g.S.Source.rest c.args.source.now) (g.S.Source.rest c.fill.new.source) (g.S.Source.rest c.go_over.new.source) c.LONGEST.result c.fill.new.self fills
          c.go_over.result (g.S.Source.faults c.fill.new.source) (g.S.Source.faults c.go_over.new.source) (change g.K.Sink.held g.K.Sink.faults c.args.out.now c.go_over.new.out) (filled.open c.in-Ok-Enough.field-0-is ∙ new) c.go_over.ensures.goes (g.S.Source.faults c.args.source.now) (filled.cause.quiet went_well) c.go_over.ensures.reads c.go_over.ensures.writes;
      pieces = c.go_over.ensures.pieces;
    }

pub returns-in-Ok-Ended : goal.returns-in-Ok-Ended
returns-in-Ok-Ended g c =
    let W = g.W.ServesWord in
    let filled = c.in-Ok-Ended.ensures in
    let fills = rw c.in-Ok.ensures at filled.fills in
    let ended = filled.ended.0 c.in-Ok-Ended.field-0-is in
    record {
      does = does_not_flow W.word (W.start c.args.word) c.requires.exact c.args.limit (g.S.Source.rest c.args.source.now) (g.S.Source.rest c.fill.new.source) c.LONGEST.result c.fill.new.self fills filled.within ended.0
          (g.S.Source.faults c.args.source.now) (g.S.Source.faults c.fill.new.source) (g.K.Sink.held c.args.out.now) (g.K.Sink.faults c.args.out.now) Source ended.1 filled.all (filled.cause.quiet went_well);
      pieces = puts_nothing W.word (W.start c.args.word) g.K.Sink.calls g.K.Sink.held c.args.out.now;
    }

pub returns-in-Ok-Limited : goal.returns-in-Ok-Limited
returns-in-Ok-Limited g c =
    let W = g.W.ServesWord in
    let filled = c.in-Ok-Limited.ensures in
    let fills = rw c.in-Ok.ensures at filled.fills in
    let ended = filled.limited.0 c.in-Ok-Limited.field-0-is in
    record {
      does = does_not_flow W.word (W.start c.args.word) c.requires.exact c.args.limit (g.S.Source.rest c.args.source.now) (g.S.Source.rest c.fill.new.source) c.LONGEST.result c.fill.new.self fills filled.within ended.0
          (g.S.Source.faults c.args.source.now) (g.S.Source.faults c.fill.new.source) (g.K.Sink.held c.args.out.now) (g.K.Sink.faults c.args.out.now) Limit ended.1 filled.all (filled.cause.quiet went_well);
      pieces = puts_nothing W.word (W.start c.args.word) g.K.Sink.calls g.K.Sink.held c.args.out.now;
    }

pub returns-in-Err-fill : goal.returns-in-Err-fill
returns-in-Err-fill g c =
    let W = g.W.ServesWord in
    let filled = c.in-Err-fill.ensures in
    let fills = rw c.in-Ok.ensures at filled.fills in
    record {
      does = does_not_read W.word (W.start c.args.word) c.requires.exact c.args.limit (g.S.Source.rest c.args.source.now) (g.S.Source.rest c.fill.new.source) c.LONGEST.result c.fill.new.self fills filled.within filled.failed.1
          (g.S.Source.faults c.args.source.now) (g.S.Source.faults c.fill.new.source) (g.K.Sink.held c.args.out.now) (g.K.Sink.faults c.args.out.now) filled.failed.0 (blamed _ _ refl filled.cause);
      pieces = puts_nothing W.word (W.start c.args.word) g.K.Sink.calls g.K.Sink.held c.args.out.now;
    }
