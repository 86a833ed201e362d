use Rattle.std.proofs.Common.{Err, IsTrue, inl, refl, ap, arith}
use Rattle.flow_io.specs.Changes.{change}
use Rattle.word_driver.proofs.Pieces.{blamed}
use Rattle.word_driver.proofs.Tasks.{does, keeps_up_within, does_not_read, does_not_fit}
use Rattle.encode_word.specs.Tasks.{encode_task}
use Rattle.encode_word.proofs.Written.{meets_told, left_told, no_read, read_quietly, memory_is_not_read}
use Rattle.encode_word.proofs.encode.encode_source.Goals as goal

pub returns-in-Err-Read : goal.returns-in-Err-Read
returns-in-Err-Read g c =
    let read = c.in-Err-Read.ensures in
    record {
      does = does_not_read (encode_task c.args.version) c.args.limit (λ bytes n. inl refl) (change g.S.Source.rest g.S.Source.faults c.args.source.now c.read_all.new.source) read.prefix.0 (g.K.Sink.held c.args.out.now) (g.K.Sink.faults c.args.out.now) read.prefix.1 read.most
          (blamed _ _ (ap Err c.in-Err-Read.field-0-is) read.cause);
      unread = λ e. refl;
    }

pub returns-in-Err-Memory : goal.returns-in-Err-Memory
returns-in-Err-Memory g c =
    let read = c.in-Err-Memory.ensures in
    record {
      does = does_not_fit (encode_task c.args.version) c.args.limit (λ left. inl refl) (change g.S.Source.rest g.S.Source.faults c.args.source.now c.read_all.new.source) (g.K.Sink.held c.args.out.now) (g.K.Sink.faults c.args.out.now) (keeps_up_within (encode_task c.args.version) c.args.limit (g.S.Source.rest c.args.source.now) (g.S.Source.rest c.read_all.new.source) read.prefix.0 (g.K.Sink.held c.args.out.now) (g.K.Sink.held c.args.out.now) read.prefix.1 read.most (omega arith)) read.most
          (read.cause.quiet (memory_is_not_read _ _ c.in-Err-Memory.field-0-is));
      unread = λ e. refl;
    }

pub returns : goal.returns
returns g c =
    let read = c.in-Ok.ensures in
    let version = c.args.version in
    let input = c.in-Ok.input in
    let source = change g.S.Source.rest g.S.Source.faults c.args.source.now c.read_all.new.source in
    let out = change g.K.Sink.held g.K.Sink.faults c.args.out.now c.encode_bytes.new.out in
    let ends = rw c.deref.ensures.value at c.encode_bytes.ensures.ends in
    record {
      does = does (encode_task version) c.args.limit c.encode_bytes.result source out (meets_told version source.before source.after c.args.limit input c.encode_bytes.result out.before out.after read.whole ends)
          (λ why. keeps_up_within (encode_task version) c.args.limit source.before source.after read.prefix.0 out.before out.after read.prefix.1 read.most (omega arith)) read.most
          (left_told version source.before source.after c.args.limit input c.encode_bytes.result out.before out.after read.whole read.taken ends)
          (read_quietly version (IsTrue input.more) input.bytes.items c.encode_bytes.result out.before out.after ends source.faults source.faults_after (read.cause.quiet (λ e. cc)))
          c.encode_bytes.ensures.cause;
      unread = λ e. absurd (no_read version (IsTrue input.more) input.bytes.items c.encode_bytes.result out.before out.after ends e);
    }
