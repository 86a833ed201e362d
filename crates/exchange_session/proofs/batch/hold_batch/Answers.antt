use Rattle.std.proofs.Common.{◌+◌, refl, None, Ok}
use Rattle.wire_records.specs.Commands.{RunBatch, Answer, Batch}
use Rattle.wire_records.specs.Versions.{IsReadAs}
use Rattle.flow_orders.specs.Outcomes as flow_orders
use Rattle.canonical_rule.specs.Canonical.{IsCanonicalOutcome}
use Rattle.batch_outcome.specs.Published.{outcome_of}
use Rattle.market_rules.specs.Journal.{Step}
use Rattle.exchange_session.proofs.AnswersFit.{pair_fits}
use Rattle.exchange_session.proofs.batch.hold_batch.Goals as goal

pub returns-clause-served : goal.returns-clause-served
returns-clause-served c =
    let old = c.args.market.now in
    let outcome = outcome_of old.orders c.in_ok-outcome.outcome in
    let answer : Answer flow_orders.Outcome = Batch (old.batches + 1) outcome in
    let step : Step IsReadAs IsCanonicalOutcome old c.args.asked.now answer c.settle.new.self = record {
      read = Ok (RunBatch c.args.budget);
      encoded = c.requires.read;
      served = record { first = None; refused = c.requires.first; answered = (outcome, c.in_ok-outcome.ensures.own, (refl, rw (c.orders.follows.holds-at-none, c.outcome_for.ensures.stays) at c.settle.ensures)) };
    } in (
      _,
      record {
        answer = answer;
        step = step;
        fits = pair_fits old c.args.asked.now answer c.settle.new.self (rw c.outcome_for.ensures.stays at c.orders.ensures.consistent) c.requires.short step;
        encoded = refl;
      },
      rw (c.batches.ensures.value, c.orders.ensures.value, c.outcome_for.ensures.stays) at c.in_ok-write_outcome.ensures.written,
    )
