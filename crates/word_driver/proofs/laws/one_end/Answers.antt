use Rattle.word_driver.proofs.OneEnds as laws
use Rattle.word_driver.proofs.laws.one_end.Goals as goal

pub returns : goal.returns
returns g c = λ exact word. laws.one_end g.W.ServesWord.word (g.W.ServesWord.start word) exact
