use Rattle.std.proofs.Common.{rules, ◌≡◌, subst, length}
use Rattle.market_rules.specs.Market.{start_prices}
use Rattle.batch_audit.specs.Findings.{HasWholeTrace}
use Rattle.batch_audit.specs.Private.{IsSkipFound}
use Rattle.batch_audit.proofs.outcomes.skip_finding.Goals as goal

pub returns-clause-found : goal.returns-clause-found
returns-clause-found c =
    let m = c.args.market.now in
    let s = c.args.view.now.skipping in
    let trace : length c.args.view.now.skipping.trace ≡ c.args.budget = search rules in
    let prices : c.in_ok-work.work.prices ≡ start_prices c.args.market.now = search rules in
    let whole : HasWholeTrace c.orders-orders.result.now c.args.budget c.args.view.now.skipping = record { wide = c.is_wide.ensures.0 c.if-not-is_wide.false; whole = trace } in
    subst (λ n. IsSkipFound n m.orders (start_prices m) c.args.budget s c.walk_finding.result) c.parts-parts.ensures.value
    (subst (λ p. IsSkipFound c.parts-parts.result m.orders p c.args.budget s c.walk_finding.result) prices
    (subst (λ o. IsSkipFound c.parts-parts.result o c.in_ok-work.work.prices c.args.budget s c.walk_finding.result) c.orders-orders.ensures.value
    (c.walk_finding.ensures c.args.budget whole)))
