use Rattle.std.proofs.Common.{◌<◌, ◌≤◌, subst}
use Rattle.flow_accounts.proofs.StoringLines.{storing_starts, storing_more, storing_ends}
use Rattle.flow_accounts.proofs.credit_lines.store_to.Goals as goal

pub loop-stored-init : goal.loop-stored-init
loop-stored-init c = storing_starts c.args.lines c.args.stored.now c.requires.none

pub loop-stored-preserved : goal.loop-stored-preserved
loop-stored-preserved c =
    storing_more c.args.lines c.args.stored.now c.requires.none c.loop-stored.stored c.push.new.self c.loop-stored.invariant (subst (λ n. n < c.args.lines) c.len.ensures c.loop-stored-test.true) c.push.ensures.added c.push.ensures.grows

pub returns-clause-stored : goal.returns-clause-stored
returns-clause-stored c =
    storing_ends c.args.lines c.args.stored.now c.requires.none c.loop-stored.stored c.loop-stored.invariant (subst (λ n. c.args.lines ≤ n) c.len.ensures c.loop-stored-test.false)
