use Rattle.std.proofs.Common.{IsTrue}
use Rattle.encode_word.proofs.Written.{file_written, none_written}
use Rattle.encode_word.proofs.encode.write_file.Goals as goal

pub returns-in-Ok-clause-ends : goal.returns-in-Ok-clause-ends
returns-in-Ok-clause-ends g c =
    file_written c.args.version c.args.tickers (IsTrue c.args.more) c.args.lines.now c.encode_all.result (g.K.Sink.held c.args.out.now) (g.K.Sink.held c.write.new.self) (g.K.Sink.held c.encode_all.new.out)
    (rw c.command_magic.ensures at c.in-Ok.ensures.written) c.encode_all.ensures.encoded

pub returns-in-Err-clause-ends : goal.returns-in-Err-clause-ends
returns-in-Err-clause-ends g c =
    none_written c.args.version c.args.tickers c.args.more c.args.lines.now (g.K.Sink.held c.args.out.now) (g.K.Sink.held c.write.new.self)
    (rw c.command_magic.ensures at c.in-Err.ensures.cut)
