use Rattle.std.proofs.Common.{IsTrue}
use Rattle.std.proofs.lemmas.List.{take_rest}
use Rattle.encode_word.proofs.Written.{found_written, cut_written}
use Rattle.encode_word.proofs.encode.encode_bytes.Goals as goal

pub returns-in-Ok-clause-ends : goal.returns-in-Ok-clause-ends
returns-in-Ok-clause-ends g c =
    found_written c.args.version (IsTrue c.args.more) c.args.bytes.now c.in-Ok.field-0.tickers c.in-Ok.field-0.place c.in-Ok.ensures.found c.write_file.result (g.K.Sink.held c.args.out.now) (g.K.Sink.held c.write_file.new.out)
    (rw take_rest at c.write_file.ensures.ends)

pub returns-in-Err-Cut-clause-ends : goal.returns-in-Err-Cut-clause-ends
returns-in-Err-Cut-clause-ends g c =
    cut_written c.args.version (IsTrue c.args.more) c.args.bytes.now (rw c.in-Err-Cut.field-0-is at c.in-Err-Cut.ensures.fault) (g.K.Sink.held c.args.out.now)
