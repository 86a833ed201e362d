use Rattle.kept_exchange.proofs.hosting.flow_host.Goals as goal

pub returns-clause-hosts : goal.returns-clause-hosts
returns-clause-hosts g c = c.flow_host_limited.ensures.hosts

pub returns-clause-untouched : goal.returns-clause-untouched
returns-clause-untouched g c = c.flow_host_limited.ensures.untouched

pub returns-clause-again : goal.returns-clause-again
returns-clause-again g c = c.flow_host_limited.ensures.again
