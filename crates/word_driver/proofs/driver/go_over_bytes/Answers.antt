use Rattle.std.proofs.Common.{[], None, IsTrue, drop, arith}
use Rattle.word_driver.specs.declared.fault.Fault.TheVariants.{Read, Write}
use Rattle.word_driver.proofs.Going.{same_fault, not_read, blames_nobody, blames_later, err_alike, has_written, to_torn, to_limit, to_end, to_break, break_blames}
use Rattle.word_driver.proofs.Puts.{end_writes, break_writes}
use Rattle.word_driver.proofs.driver.go_over_bytes.Goals as goal

pub returns-in-Ok-End : goal.returns-in-Ok-End
returns-in-Ok-End g c =
    let W = g.W.ServesWord in
    let K = g.K.Sink in
    let bytes = drop c.args.place c.args.bytes.now in
    let done = rw c.in-Ok-End.field-0-is at c.in-Ok-End.ensures.ended in
    let goes = end_writes W.word K.calls K.held K.faults _ _ _ _ _ _ _ _ done in
    let so = has_written W.word K.held K.faults (W.state c.args.word) (W.state c.take_units.new.taker.word) c.args.out.now c.take_units.new.out goes.units goes.leads in
    record {
      ends = to_end W.word K.held K.faults (IsTrue c.args.more) c.args.place bytes (W.state c.args.word) (W.state c.take_units.new.taker.word) c.args.out.now c.take_units.new.out c.close.new.out 0 [] None c.close.result goes tt (omega arith) c.close.ensures.closed;
      unread = λ e. rw e at c.close.ensures.closed;
      cause = blames_later _ _ _ so.quiet (λ e. e) (λ e. e) c.close.ensures.cause;
    }

pub returns-in-Ok-Torn : goal.returns-in-Ok-Torn
returns-in-Ok-Torn g c =
    let W = g.W.ServesWord in
    let K = g.K.Sink in
    let bytes = drop c.args.place c.args.bytes.now in
    let done = rw c.in-Ok-Torn.field-0-is at c.in-Ok-Torn.ensures.ended in
    let goes = end_writes W.word K.calls K.held K.faults _ _ _ _ _ _ _ _ done in
    let so = has_written W.word K.held K.faults (W.state c.args.word) (W.state c.take_units.new.taker.word) c.args.out.now c.take_units.new.out goes.units goes.leads in
    record {
      ends = to_torn W.word K.held K.faults (IsTrue c.args.more) c.args.place bytes (W.state c.args.word) (W.state c.take_units.new.taker.word) c.args.out.now c.take_units.new.out c.take_units.new.out 0 [] None c.in-Ok-Torn.at goes;
      unread = λ e. absurd cc;
      cause = blames_nobody _ _ (λ e. absurd cc) so.quiet;
    }

pub returns-in-Ok-TooLong : goal.returns-in-Ok-TooLong
returns-in-Ok-TooLong g c =
    let W = g.W.ServesWord in
    let K = g.K.Sink in
    let bytes = drop c.args.place c.args.bytes.now in
    let done = rw c.in-Ok-TooLong.field-0-is at c.in-Ok-TooLong.ensures.ended in
    let goes = end_writes W.word K.calls K.held K.faults _ _ _ _ _ _ _ _ done in
    let so = has_written W.word K.held K.faults (W.state c.args.word) (W.state c.take_units.new.taker.word) c.args.out.now c.take_units.new.out goes.units goes.leads in
    record {
      ends = to_limit W.word K.held K.faults (IsTrue c.args.more) c.args.place bytes (W.state c.args.word) (W.state c.take_units.new.taker.word) c.args.out.now c.take_units.new.out c.take_units.new.out 0 [] None goes;
      unread = λ e. absurd cc;
      cause = blames_nobody _ _ (λ e. absurd cc) so.quiet;
    }

pub returns : goal.returns
returns g c =
    let W = g.W.ServesWord in
    let K = g.K.Sink in
    let bytes = drop c.args.place c.args.bytes.now in
    let off = break_writes W.word K.calls K.held K.faults _ _ _ _ _ c.in-Err.ensures.broken in
    record {
      ends = to_break W.word K.held K.faults c.requires.exact (IsTrue c.args.more) c.args.place bytes (W.state c.args.word) c.args.out.now c.take_units.new.out 0 [] None c.in-Err.fault off (omega arith);
      unread = λ e. not_read W.word K.held K.faults c.requires.exact (IsTrue c.args.more) c.args.place bytes (W.state c.args.word) c.args.out.now c.take_units.new.out 0 [] None c.in-Err.fault off (same_fault _ _ c.in-Err.fault Read e);
      cause = err_alike c.in-Err.fault Write _ _ (break_blames W.word K.held K.faults c.requires.exact (IsTrue c.args.more) c.args.place bytes (W.state c.args.word) c.args.out.now c.take_units.new.out 0 [] None c.in-Err.fault off);
    }
