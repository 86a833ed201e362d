use Rattle.batch_audit.proofs.Told.{cleared_told}
use Rattle.batch_audit.proofs.outcomes.cleared_for.Goals as goal

pub returns-clause-outcome : goal.returns-clause-outcome
returns-clause-outcome c = λ budget.
    let copy = c.in_ok-to_cleared.ensures in
    cleared_told c.args.market.now budget c.args.view.now.batch c.args.view.now.clearing c.in_ok-to_cleared.field-0 (rw (c.batch.ensures, c.batches.ensures.value) at c.if-batch-batches.false)
    (c.in_ok-is_clearing_admissible.ensures.right.0 c.if-not-branch.false)
    copy.prices copy.rates copy.residuals copy.gap
