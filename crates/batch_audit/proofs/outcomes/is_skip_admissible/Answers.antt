use Rattle.market_rules.specs.Market.{parts_of, start_prices}
use Rattle.batch_audit.proofs.Found.{right_where}
use Rattle.batch_audit.proofs.outcomes.is_skip_admissible.Goals as goal

pub returns-clause-right : goal.returns-clause-right
returns-clause-right c =
    let right = right_where (parts_of c.args.market.now.version) c.args.market.now.orders (start_prices c.args.market.now) c.args.budget c.args.view.now.skipping c.in_ok-skip_finding.field-0 c.in_ok-skip_finding.ensures.found in
    ((λ same. right.0 (c.is_legal.ensures.0 same)), (λ is. c.is_legal.ensures.1 (right.1 is)))
