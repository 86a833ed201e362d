-- Steps from a consistent market keep the promises of the exchange.
use Rattle.std.proofs.Common.{◌≡◌, ℕ, ◌≤◌, List, Result, Ok, Err, ap, sym, subst, ◌∙◌}
use Rattle.wire_records.specs.Records.{Record}
use Rattle.wire_records.specs.Commands.{Command, RunBatch, Plain, Batch, Pair}
use Rattle.wire_records.specs.Versions.{IsReadAs}
use Rattle.wire_records.specs.declared.command.BodyFault.{BodyFault}
use Rattle.wire_records.specs.declared.reply.Reply.{Reply}
use Rattle.wire_records.proofs.Readings.{reading_unique, read_own}
use Rattle.flow_orders.specs.Outcomes.{Outcome, Skipping, Cleared, Skipped, BatchRule, IsAdmissibleOutcome, IsAdmissibleSkip}
use Rattle.flow_orders.proofs.GapBound.{gaps_are_bounded}
use Rattle.flow_orders.proofs.WalkLaws.{walks_lower_the_dual}
use Rattle.market_rules.specs.Market.{Market, IsConsistent, parts_of, start_prices}
use Rattle.market_rules.specs.Step.{Serves, ServesRead}
use Rattle.market_rules.specs.Journal.{Follows, fills_of}
use Rattle.market_rules.specs.Promises.{HoldsBatch, KeepsPromises}
use Rattle.market_rules.proofs.Consistency.{consistent_follows}
use Rattle.market_rules.proofs.Versions.{some_parts}
use Rattle.market_rules.proofs.Fills.{fills_within_cap, live_fills_within_cap}
use Rattle.market_rules.proofs.LawProofs.{batch_of, batches_keep_totals, cleared_batches_are_optimal, skips_only_end_orders, orders_end_in_time, batch_count, skips_lower_the_dual}

no_plain : (n : ℕ) (o : Outcome) (r : Reply) → Batch n o ≡ Plain r → ⊥
no_plain n o r e = cc

-- a record that is answered by a batch was read as a command
pub batch_served : (Rule : BatchRule) (old : Market) (read : Result Command BodyFault) (n : ℕ) (o : Outcome) (new : Market) → ServesRead Rule old read (Batch n o) new
    → (command : Command) × Serves Rule old command (Batch n o) new
batch_served Rule old (Ok command) n o new served = (command, served)
batch_served Rule old (Err why) n o new served = absurd (no_plain n o _ served.0)

same_budget : (a b : ℕ) → RunBatch a ≡ RunBatch b → a ≡ b
same_budget a b e = cc

module _ {start : Market} {pairs : List (Pair Record Outcome)} (begins : IsConsistent start) where
  pub consistent_before : (old : Market) (outcome : Outcome) (new : Market) → HoldsBatch IsReadAs start pairs old outcome new → IsConsistent old
  consistent_before old outcome new batch = consistent_follows IsReadAs read_own start batch.before old begins batch.led

  -- the batch is served as a command with its budget
  right_step : (old : Market) (outcome : Outcome) (new : Market) (batch : HoldsBatch IsReadAs start pairs old outcome new) → Serves IsAdmissibleOutcome old (RunBatch batch.budget) (Batch batch.number outcome) new
  right_step old outcome new batch =
      let same = reading_unique old.version batch.asked batch.made.read (Ok (RunBatch batch.budget)) batch.made.encoded batch.asks in
      subst (λ r. ServesRead IsAdmissibleOutcome old r (Batch batch.number outcome) new) same batch.made.served

  -- a skip is admissible with the batch's budget
  admissible_skip : (old : Market) (s : Skipping) (new : Market) (batch : HoldsBatch IsReadAs start pairs old (Skipped s) new) → IsAdmissibleSkip (parts_of old.version) old.orders (start_prices old) batch.budget s
  admissible_skip old s new batch =
      let held = batch_of IsAdmissibleOutcome old (RunBatch batch.budget) batch.number (Skipped s) new (right_step old (Skipped s) new batch) in
      subst (λ n. IsAdmissibleSkip (parts_of old.version) old.orders (start_prices old) n s) (sym (same_budget batch.budget held.budget held.command_is)) held.ruled

module _ (start : Market) (pairs : List (Pair Record Outcome)) (market : Market) (begins : IsConsistent start) (legal : Follows IsReadAs IsAdmissibleOutcome start pairs market) where
  pub legal_journal_keeps_promises : KeepsPromises IsReadAs start pairs
  legal_journal_keeps_promises = record {
    cleared = λ old new c batch. (batch_of IsAdmissibleOutcome old (RunBatch batch.budget) batch.number (Cleared c) new (right_step begins old (Cleared c) new batch)).ruled;
    optimal = λ old new c batch.
        cleared_batches_are_optimal old (RunBatch batch.budget) batch.number c new (consistent_before begins old (Cleared c) new batch) (right_step begins old (Cleared c) new batch);
    bounded = λ old new c batch.
        gaps_are_bounded old.orders (start_prices old) c (λ k d inside. ((consistent_before begins old (Cleared c) new batch).live k d inside).order)
        (batch_of IsAdmissibleOutcome old (RunBatch batch.budget) batch.number (Cleared c) new (right_step begins old (Cleared c) new batch)).ruled;
    skipped = λ old new s batch. admissible_skip begins old s new batch;
    progress = λ old new s batch.
        let consistent = consistent_before begins old (Skipped s) new batch in
        let right = admissible_skip begins old s new batch in
        record {
          exact = λ N common. walks_lower_the_dual.exact (parts_of old.version) (some_parts old.version) N old.orders (start_prices old) s.trace (λ k d inside. (consistent.live k d inside).order) common right.legal;
          moves = walks_lower_the_dual.moves (parts_of old.version) old.orders (start_prices old) s.trace right.legal;
          floors = skips_lower_the_dual.movement old (RunBatch batch.budget) batch.number s new consistent (right_step begins old (Skipped s) new batch);
        };
    stays = λ old new s batch. skips_only_end_orders old (RunBatch batch.budget) batch.number s new (right_step begins old (Skipped s) new batch);
    lasts = λ old new outcome batch.
        let served = right_step begins old outcome new batch in
        let consistent = consistent_before begins old outcome new batch in
        let held = batch_of IsAdmissibleOutcome old (RunBatch batch.budget) batch.number outcome new served in
        let number = ap (λ (x : Market). x.batches) held.made ∙ batch_count old outcome ∙ sym held.number_is in (
          rw number (orders_end_in_time.before old (RunBatch batch.budget) batch.number outcome new consistent served),
          rw number (orders_end_in_time.after old (RunBatch batch.budget) batch.number outcome new consistent served),
        );
    totals = λ old new outcome batch. batches_keep_totals old (RunBatch batch.budget) batch.number outcome new (consistent_before begins old outcome new batch) (right_step begins old outcome new batch);
    fills = λ before after pair number cap stands places.
        subst (λ ps. fills_of number ps ≤ cap) (sym stands)
        (fills_within_cap IsReadAs read_own reading_unique start before after pair market number cap begins (subst (λ ps. Follows IsReadAs IsAdmissibleOutcome start ps market) stands legal) places);
    live_fills = λ o live. live_fills_within_cap IsReadAs read_own reading_unique start pairs market o begins live legal;
  }
