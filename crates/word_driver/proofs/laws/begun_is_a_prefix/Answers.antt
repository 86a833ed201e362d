use Rattle.word_driver.proofs.OneEnds as laws
use Rattle.word_driver.proofs.laws.begun_is_a_prefix.Goals as goal

pub returns : goal.returns
returns g c = λ exact word. laws.begun_is_a_prefix g.W.ServesWord.word (g.W.ServesWord.start word) exact
