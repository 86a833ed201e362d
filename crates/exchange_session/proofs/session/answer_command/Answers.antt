use Rattle.std.proofs.Common.{◌≡◌, ◌++◌, ◌+◌, length, refl, ap, ◌∙◌, subst, None, Ok, arith}
use Rattle.wire_records.specs.Records.{encoding}
use Rattle.wire_records.specs.Commands.{RunBatch, Answer, Plain, Batch}
use Rattle.wire_records.specs.CommandRecords.{record_of}
use Rattle.wire_records.specs.Versions.{IsReadAs}
use Rattle.wire_records.specs.Views.{command_in}
use Rattle.wire_records.proofs.Readings.{command_short}
use Rattle.flow_orders.specs.Outcomes.{Outcome}
use Rattle.canonical_rule.specs.Canonical.{IsCanonicalOutcome}
use Rattle.batch_outcome.specs.Published.{outcome_of}
use Rattle.market_rules.specs.Market.{Market, IsConsistent, search_of, start_prices}
use Rattle.market_rules.specs.Settling.{MaySettle}
use Rattle.market_rules.specs.Step.{after_batch}
use Rattle.market_rules.specs.Journal.{Step}
use Rattle.exchange_session.specs.Private.{IsAsked}
use Rattle.exchange_session.specs.declared.session.Asked.TheVariants as asks
use Rattle.exchange_session.proofs.AnswersFit.{plain_pair_fits, pair_fits}
use Rattle.exchange_session.proofs.Written.{entry_written}
use Rattle.exchange_session.proofs.session.answer_command.Goals as goal

pub returns-in-Plain-clause-answered : goal.returns-in-Plain-clause-answered
returns-in-Plain-clause-answered c =
    let command = command_in c.args.command.now in
    let asked = record_of command in
    let fits = c.in_ok-write_command.ensures.fits in
    record {
      fits = fits;
      answers = record {
        answer = Plain c.in-Plain.reply;
        step = rw c.in-Plain.is at c.in_ok-reply.ensures.step;
        fits = λ next. plain_pair_fits asked c.in-Plain.reply (command_short command fits c.requires.short) c.put_reply.ensures.fits;
        encoded = entry_written asked (Plain c.in-Plain.reply) c.args.out.now.items c.reserve_reply.new.out.items c.put_reply.new.out.items c.requires.empty (c.reserve_reply.ensures.stays ∙ c.in_ok-write_command.ensures.written) c.put_reply.ensures.written;
      };
      told_of = refl;
    }

pub returns-in_ok-outcome-in-Batch-clause-answered : goal.returns-in_ok-outcome-in-Batch-clause-answered
returns-in_ok-outcome-in-Batch-clause-answered c =
    let command = command_in c.args.command.now in
    let asked = record_of command in
    let old = c.args.market.now in
    let between = c.reply_to_written.new.market in
    let fits = c.in_ok-write_command.ensures.fits in
    let asks : IsAsked old asked between (asks.Batch c.in-Batch.budget) = rw c.in-Batch.is at c.in_ok-reply.ensures.step in
    let outcome = outcome_of old.orders c.in_ok-outcome-in-Batch.outcome in
    let own : IsCanonicalOutcome (search_of old.version) old.orders (start_prices old) c.in-Batch.budget outcome =
    subst (λ (m : Market). IsCanonicalOutcome (search_of m.version) m.orders (start_prices m) c.in-Batch.budget (outcome_of m.orders c.in_ok-outcome-in-Batch.outcome)) asks.1
    c.in_ok-outcome-in-Batch.ensures.own in
    let consistent : IsConsistent old = subst IsConsistent asks.1 c.in_ok-outcome-in-Batch.ensures.consistent in
    let answer : Answer Outcome = Batch (old.batches + 1) outcome in
    let first : c.reserve_reply.new.out.items ≡ c.args.out.now.items ++ encoding asked = c.reserve_reply.ensures.stays ∙ c.in_ok-write_command.ensures.written in
    let step : Step IsReadAs IsCanonicalOutcome old asked answer (after_batch old outcome) = record {
      read = Ok (RunBatch c.in-Batch.budget);
      encoded = asks.0.read;
      served = record { first = None; refused = asks.0.first; answered = (outcome, own, (refl, refl)) };
    } in (
      record {
        serves = record {
          fits = fits;
          answers = record {
            answer = answer;
            step = step;
            fits = pair_fits old asked answer (after_batch old outcome) consistent (command_short command fits c.requires.short) step;
            encoded = entry_written asked answer c.args.out.now.items c.reserve_reply.new.out.items c.answer_batch.new.out.items c.requires.empty first (rw asks.1 at c.in_ok-outcome-in-Batch.ensures.written);
          };
          told_of = (old.batches + 1, outcome, refl, omega (arith, c.len-place.ensures, c.deref.ensures.len, ap length c.deref.ensures.value, ap length (first ∙ ap (λ xs. xs ++ encoding asked) c.requires.empty)));
        };
        answer = refl;
        right = subst (λ (m : Market). MaySettle m c.in_ok-outcome-in-Batch.outcome) asks.1 c.in_ok-outcome-in-Batch.ensures.settles;
        more = asks.0.more;
      },
      c.answer_batch.ensures.market ∙ asks.1,
    )
