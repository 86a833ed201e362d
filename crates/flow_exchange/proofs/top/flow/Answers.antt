use Rattle.flow_exchange.proofs.top.flow.Goals as goal

pub returns-clause-serves : goal.returns-clause-serves
returns-clause-serves g c = c.flow_limited.ensures.serves

pub returns-clause-allocates : goal.returns-clause-allocates
returns-clause-allocates g c = c.flow_limited.ensures.allocates

pub returns-clause-promises : goal.returns-clause-promises
returns-clause-promises g c = c.flow_limited.ensures.promises

pub returns-clause-paced : goal.returns-clause-paced
returns-clause-paced g c = c.flow_limited.ensures.paced

pub returns-clause-pieces : goal.returns-clause-pieces
returns-clause-pieces g c = c.flow_limited.ensures.pieces
