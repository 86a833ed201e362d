use Rattle.word_driver.proofs.SomeEnds as laws
use Rattle.word_driver.proofs.laws.some_end.Goals as goal

pub returns : goal.returns
returns g c = λ exact word kept next. laws.some_end g.W.ServesWord.word (g.W.ServesWord.start word) exact kept next
