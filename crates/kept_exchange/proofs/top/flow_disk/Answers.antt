use Rattle.kept_exchange.proofs.top.flow_disk.Goals as goal

pub returns-clause-serves : goal.returns-clause-serves
returns-clause-serves g c = c.flow_disk_limited.ensures.serves

pub returns-clause-untouched : goal.returns-clause-untouched
returns-clause-untouched g c = c.flow_disk_limited.ensures.untouched

pub returns-clause-made : goal.returns-clause-made
returns-clause-made g c = c.flow_disk_limited.ensures.made

pub returns-clause-lengths : goal.returns-clause-lengths
returns-clause-lengths g c = c.flow_disk_limited.ensures.lengths

pub returns-clause-paced : goal.returns-clause-paced
returns-clause-paced g c = c.flow_disk_limited.ensures.paced

pub returns-clause-allocates : goal.returns-clause-allocates
returns-clause-allocates g c = c.flow_disk_limited.ensures.allocates
