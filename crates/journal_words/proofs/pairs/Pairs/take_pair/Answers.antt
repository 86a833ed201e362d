use Rattle.journal_words.proofs.pairs.Pairs.take_pair.Goals as goal

pub reject-requires-clause-illegal : goal.reject-requires-clause-illegal
reject-requires-clause-illegal g c = λ new legal. (rw c.answered.ensures at c.in-None.ensures) legal.answer legal.encoded

pub take_replied-requires-clause-replied : goal.take_replied-requires-clause-replied
take_replied-requires-clause-replied g c = rw c.answered.ensures at c.in-Some.ensures
