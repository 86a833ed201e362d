use Rattle.std.proofs.Common.{refl}
use Rattle.flow_io.proofs.Calls.{hands_alike}
use Rattle.word_driver.proofs.Pieces.{taken, cut, blamed}
use Rattle.word_driver.proofs.writing.WritingTakesUnits.take.Goals as goal

pub returns-in-Ok-put-clause-taken : goal.returns-in-Ok-put-clause-taken
returns-in-Ok-put-clause-taken g c =
    let put = c.in-Ok-put.ensures in
    taken g.W.ServesWord.word g.K.Sink.calls g.K.Sink.held g.K.Sink.faults c.in-Ok.prefix c.args.bytes.now _ _ c.take.new.text.items c.args.out.now c.put.new.out c.in-Ok.ensures.taken (rw c.deref.ensures.value at put.written) (rw c.deref.ensures.value at put.none) (put.cause.quiet (λ e. cc)) (hands_alike g.K.Sink.calls g.K.Sink.held c.args.out.now c.put.new.out _ (λ not e. cc) (rw c.deref.ensures.value at put.pieces))

pub returns-in-Err-put-clause-broken : goal.returns-in-Err-put-clause-broken
returns-in-Err-put-clause-broken g c =
    let put = c.in-Err-put.ensures in
    cut g.W.ServesWord.word g.K.Sink.calls g.K.Sink.held g.K.Sink.faults c.in-Ok.prefix c.args.bytes.now _ _ c.take.new.text.items c.args.out.now c.put.new.out c.in-Ok.ensures.taken (rw c.deref.ensures.value at put.cut) (rw c.deref.ensures.value at put.some) (blamed _ _ refl put.cause) (hands_alike g.K.Sink.calls g.K.Sink.held c.args.out.now c.put.new.out _ (λ not e. not refl) (rw c.deref.ensures.value at put.pieces))
