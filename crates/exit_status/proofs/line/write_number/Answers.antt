use Rattle.std.proofs.Common.{decimal, ◌∙◌}
use Rattle.std.proofs.lemmas.Result.{err_from_is_err_and}
use Rattle.flow_io.proofs.Growth.{number_cut, end_cut}
use Rattle.exit_status.proofs.line.write_number.Goals as goal

pub returns-in_err-write-2-clause-cut : goal.returns-in_err-write-2-clause-cut
returns-in_err-write-2-clause-cut g c =
    let p = err_from_is_err_and c.from_residual-in_err-write-2.result c.from_residual-in_err-write-2.ensures.1 in
    let number = c.as_bytes.ensures.value ∙ c.format.ensures.text in
    rw p.1 (number_cut (g.N.Sink.held c.args.notes.now) (g.N.Sink.held c.write.new.self) (g.N.Sink.held c.write-2.new.self) c.args.before.now (decimal c.args.number) c.args.after.now c.in_ok-write.ensures.written (rw number at c.in_err-write-2.ensures.cut))

pub returns-clause-cut : goal.returns-clause-cut
returns-clause-cut g c =
    let number = c.as_bytes.ensures.value ∙ c.format.ensures.text in
    end_cut c.write-3.result (g.N.Sink.held c.args.notes.now) (g.N.Sink.held c.write.new.self) (g.N.Sink.held c.write-2.new.self) (g.N.Sink.held c.write-3.new.self) c.args.before.now (decimal c.args.number) c.args.after.now
    c.in_ok-write.ensures.written (rw number at c.in_ok-write-2.ensures.written) c.write-3.ensures.cut
