use Rattle.kept_exchange.proofs.lines.flow_lines.Goals as goal

pub returns-clause-serves : goal.returns-clause-serves
returns-clause-serves g c = c.flow_lines_limited.ensures.serves

pub returns-clause-untouched : goal.returns-clause-untouched
returns-clause-untouched g c = c.flow_lines_limited.ensures.untouched

pub returns-clause-made : goal.returns-clause-made
returns-clause-made g c = c.flow_lines_limited.ensures.made

pub returns-clause-lengths : goal.returns-clause-lengths
returns-clause-lengths g c = c.flow_lines_limited.ensures.lengths
