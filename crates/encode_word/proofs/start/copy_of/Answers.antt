use Rattle.encode_word.proofs.Copying.{one_more}
use Rattle.encode_word.proofs.start.copy_of.Goals as goal

pub loop-ticker-preserved : goal.loop-ticker-preserved
loop-ticker-preserved c =
    one_more c.args.known.now c.loop-ticker.tickers c.add.new.self c.in-Some.ticker c.loop-ticker.invariant (rw c.len.ensures.count at c.in-Some.ensures.value) c.in-Ok.ensures.added.1
