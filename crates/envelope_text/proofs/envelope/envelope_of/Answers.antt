use Rattle.std.proofs.Common.{arith}
use Rattle.json.specs.Value.{value_view}
use Rattle.envelope_text.proofs.Members.{when_none, counted, no_id}
use Rattle.envelope_text.proofs.envelope.envelope_of.Goals as goal

pub returns-in_err-from-clause-none : goal.returns-in_err-from-clause-none
returns-in_err-from-clause-none c = when_none c.from_residual.result (λ sent has. c.in_err-from.ensures.none sent.from has.from)

pub returns-in_err-text-clause-none : goal.returns-in_err-text-clause-none
returns-in_err-text-clause-none c = when_none c.from_residual-in_err-text.result (λ sent has. c.in_err-text.ensures.none sent.text has.text)

pub returns-in_err-count-clause-none : goal.returns-in_err-count-clause-none
returns-in_err-count-clause-none c =
    when_none c.from_residual-in_err-count.result (λ sent has. let there = counted (value_view c.args.value.now) sent.id has.id in c.in_err-count.ensures.none there.0 there.1)

pub returns-in_err-id-clause-none : goal.returns-in_err-id-clause-none
returns-in_err-id-clause-none c =
    when_none c.from_residual-in_err-id.result (λ sent has. no_id (value_view c.args.value.now) c.in_ok-count.count c.in_ok-count.ensures.some (λ two. absurd (omega (arith, two, c.if-count-eq2.false))) c.in_err-id.ensures.none sent.id has.id)
