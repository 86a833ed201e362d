use Rattle.std.proofs.Common.{ap, ◌+◌}
use Rattle.joint_rounds.proofs.StateFacts.{tau_none, tau_some, tau_most}
use Rattle.joint_rounds.proofs.order_states.tau.Goals as goal

pub returns-then-shift-gt48-clause-value : goal.returns-then-shift-gt48-clause-value
returns-then-shift-gt48-clause-value c = tau_none c.args.s _ (ap (λ k. c.args.s + k) c.coarseness.ensures.value) c.if-shift-gt48.true

pub returns-else-shift-gt48-clause-value : goal.returns-else-shift-gt48-clause-value
returns-else-shift-gt48-clause-value c = tau_some c.args.s _ (ap (λ k. c.args.s + k) c.coarseness.ensures.value)

pub returns-else-shift-gt48-clause-most : goal.returns-else-shift-gt48-clause-most
returns-else-shift-gt48-clause-most c = rw (tau_some c.args.s _ (ap (λ k. c.args.s + k) c.coarseness.ensures.value)) (tau_most c.args.s)
