use Rattle.sample_summary.proofs.sampling.audit_legal.Goals as goal

pub unreachable-requires : goal.unreachable-requires
unreachable-requires c = (rw c.in-Illegal.is at c.in_ok-pair.ensures.judged).0 c.requires.legal.0 c.requires.legal.1
