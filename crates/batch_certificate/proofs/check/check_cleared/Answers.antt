use Rattle.std.proofs.lemmas.Bool.{false≢true}
use Rattle.flow_orders.proofs.GapBound.{gaps_are_bounded}
use Rattle.flow_orders.proofs.Optimal.{right_is_optimal}
use Rattle.batch_certificate.specs.declared.verdict.Verdict.TheVariants.{Count}
use Rattle.batch_certificate.proofs.OneVerdict.{right_where}
use Rattle.batch_certificate.proofs.check.check_cleared.Goals as goal

pub returns-then-not-are_counted-clause-right : goal.returns-then-not-are_counted-clause-right
returns-then-not-are_counted-clause-right g c = right_where _ _ _ Count (λ counted. false≢true (c.if-not-are_counted.ensures.1 counted))

pub returns-clause-right : goal.returns-clause-right
returns-clause-right g c = right_where _ _ _ _ c.check_counted.ensures.verdict

pub returns-clause-optimal : goal.returns-clause-optimal
returns-clause-optimal g c is =
    right_is_optimal c.args.orders.now c.args.start.now (g.P.ClearedParts.clearing c.args.parts.now) c.check_counted.ensures.orders c.requires.priced ((right_where _ _ _ _ c.check_counted.ensures.verdict).0 is)

pub returns-clause-bounded : goal.returns-clause-bounded
returns-clause-bounded g c is =
    gaps_are_bounded c.args.orders.now c.args.start.now (g.P.ClearedParts.clearing c.args.parts.now) c.check_counted.ensures.orders ((right_where _ _ _ _ c.check_counted.ensures.verdict).0 is)
