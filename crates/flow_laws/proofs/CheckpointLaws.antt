-- Checkpoints of histories: when they are done, and that they are checkpoints.
use Rattle.std.proofs.Common.{◌≡◌, ◌≢◌, ◌<◌, ◌+◌, ◌^◌, ℕ, List, [], ◌∷◌, map, take, Option, Some, None, Result, Ok, Err, inl, inr, length-append, refl, sym, subst, ◌∙◌, arith}
use Rattle.std.specs.Prelude.{All, not, ◌==◌}
use Rattle.std.specs.List.{flat_map}
use Rattle.std.proofs.lemmas.List.Elements.{All-nil, All-push, All-map, All-filter}
use Rattle.wire_records.specs.Records.{Record}
use Rattle.wire_records.specs.Commands.{Command, Place, CancelOrder, RunBatch, Answer, Pair}
use Rattle.wire_records.specs.CommandRecords.{IsCommand}
use Rattle.wire_records.proofs.FieldForms.{command_from}
use Rattle.wire_records.specs.Versions.{IsReadAs}
use Rattle.wire_records.specs.Reading.{Ending, End, Torn, TooLong}
use Rattle.wire_records.specs.declared.command.BodyFault.{BodyFault}
use Rattle.wire_records.specs.declared.reply.Refusal.{Refusal}
use Rattle.flow_orders.specs.Orders.{Order}
use Rattle.flow_orders.specs.Outcomes.{Fill, Outcome, Cleared, Skipped, IsAdmissibleOutcome, trades_of}
use Rattle.flow_orders.specs.Trades.{Trade, after_fill, staying}
use Rattle.flow_orders.proofs.TradeFacts.{All-trades, is_live}
use Rattle.journal_records.specs.Pairs.{pair_encoding}
use Rattle.journal_records.specs.Formats.{journal_magic_of}
use Rattle.market_rules.specs.Market.{Market, empty_market}
use Rattle.market_rules.specs.Step.{Accepts, ServesRead, after_batch, placed}
use Rattle.market_rules.proofs.ByFirst.{Answers}
use Rattle.market_rules.specs.Journal.{Follows}
use Rattle.market_rules.proofs.LawProofs.{journals_stay_consistent}
use Rattle.market_snapshot.specs.Checkpoints.{checkpoint_bytes}
use Rattle.market_history.specs.Histories.{Start, Empty, Kept, CanStart, market_of}
use Rattle.flow_exchange.specs.declared.form.Form.TheVariants.{Audit}
use Rattle.exit_status.specs.declared.status.Status.{Status}
use Rattle.exit_status.specs.declared.status.Status.TheVariants as answer
use Rattle.flow_exchange.specs.Auditing.{audit_text}
use Rattle.flow_exchange.specs.Checkpointing.{checkpoint_text, CheckpointsTo}
use Rattle.flow_exchange.specs.JournalFiles.{if_whole, audit_status}
use Rattle.flow_exchange.proofs.HistoryOf.{history_of, makes_of, consistent_start}
use Rattle.flow_exchange.proofs.Outcomes.{one_end}
use Rattle.flow_laws.specs.Laws.{EncodesHistory, CheckpointsOfHistories, HistoriesHaveCheckpoints, LegalJournalsHaveCheckpoints}
use Rattle.flow_laws.proofs.AuditLaws.{done_all, all_made, no_history_done, to_end, from_end}
use Rattle.flow_laws.proofs.GoingOn.{legal_is_consistent, orders_few}
use Rattle.flow_laws.proofs.RunsAudited.{pairs_long}

-- ---- when they are done

-- the text is that of the market at the end
done_to : (limit : ℕ) (bytes text : List ℕ) → CheckpointsTo limit bytes answer.Done text
    → (start : Start) × (pairs : List (Pair Record Outcome)) × (market : Market) × EncodesHistory limit bytes start pairs market × (text ≡ checkpoint_bytes market)
done_to limit bytes text (inl none) = absurd (no_history_done (take limit bytes) none.0)
done_to limit bytes text (inr file) =
    let h = file.0 in
    let all = done_all limit h.ending h.legal h.following file.2 in
    (h.start, h.legal, h.market, to_end limit bytes h all file.1, file.3 ∙ all_made h.following h.ending (checkpoint_bytes h.market) [] all)

-- nothing is written on another status
nothing_else : (limit : ℕ) (status : Status) (market : Market) (ending : Ending) (legal : List (Pair Record Outcome)) (following : List (Record × Record)) → status ≡ audit_status limit ending legal following → status ≢ answer.Done → if_whole following ending (checkpoint_bytes market) [] ≡ []
nothing_else limit status market End legal [] ends other = absurd (other ends)
nothing_else limit status market (Torn place) legal [] ends other = refl
nothing_else limit status market TooLong legal [] ends other = refl
nothing_else limit status market ending legal (bad ∷ more) ends other = refl

pub checkpoints_of_histories : CheckpointsOfHistories
checkpoints_of_histories = record {
  done = λ limit bytes text. (
    done_to limit bytes text,
    λ (start, pairs, market, so, is).
        makes_of (λ history text. text ≡ checkpoint_text history) limit bytes answer.Done text (history_of start pairs market [] End) (from_end limit bytes start pairs market so) refl is,
  );
  audited = λ limit bytes text line status other comes audits.
      elim comes [
        | inl none ↦ (one_end Audit limit bytes status other text line (inl none) audits).0
        | inr file ↦ (one_end Audit limit bytes status other (audit_text file.0) line (inr ((file.0, file.1, file.2, refl))) audits).0
      ];
  nothing = λ limit bytes text status comes other.
      elim comes [ inl none ↦ none.1 | inr file ↦ file.3 ∙ nothing_else limit status file.0.market file.0.ending file.0.legal file.0.following file.2 other ];
}

-- ---- that they are checkpoints

-- last batches fit their fields
abbrev LastsFit : List Order → Type 0
LastsFit orders = All (λ (o : Order). o.last < 2 ^ 32) orders

lasts_after : (m : Market) (outcome : Outcome) → LastsFit m.orders → LastsFit (after_batch m outcome).orders
lasts_after m (Cleared c) fits =
    let each : All (λ (t : Trade). t.order.last < 2 ^ 32) (trades_of m.orders c.fills) = All-trades (λ (o : Order). o.last < 2 ^ 32) m.orders (map (λ (f : Fill). f.rate) c.fills) fits in
    let filled = All-map (λ (o : Order). o.last < 2 ^ 32) after_fill (trades_of m.orders c.fills) each in
    All-filter (λ (o : Order). not (o.last == m.batches + 1)) (λ (o : Order). o.last < 2 ^ 32) (staying (trades_of m.orders c.fills))
    (All-filter is_live (λ (o : Order). o.last < 2 ^ 32) (map after_fill (trades_of m.orders c.fills)) filled)
lasts_after m (Skipped s) fits = All-filter (λ (o : Order). not (o.last == m.batches + 1)) (λ (o : Order). o.last < 2 ^ 32) m.orders fits

-- last batches fit in a market that equals one in which they fit
lasts_by : {made : Market} (n : Market) → n ≡ made → LastsFit made.orders → LastsFit n.orders
lasts_by n is fits = subst (λ (k : Market). LastsFit k.orders) (sym is) fits

lasts_accepted : (m : Market) (c : Command) (a : Answer Outcome) (n : Market) → IsCommand c → LastsFit m.orders → Accepts IsAdmissibleOutcome m c a n → LastsFit n.orders
lasts_accepted m (Place None r) a n is fits accepts =
    lasts_by n accepts.1 (All-push (λ (o : Order). o.last < 2 ^ 32) m.orders (placed m None r) fits (omega arith))
lasts_accepted m (CancelOrder account number) a n is fits accepts =
    lasts_by n accepts.1 (All-filter (λ (o : Order). not (o.number == number)) (λ (o : Order). o.last < 2 ^ 32) m.orders fits)
lasts_accepted m (RunBatch budget) a n is fits accepts = lasts_by n accepts.2.1 (lasts_after m accepts.0 fits)
lasts_accepted m (Place (Some last) r) a n is fits accepts =
    lasts_by n accepts.1 (All-push (λ (o : Order). o.last < 2 ^ 32) m.orders (placed m (Some last) r) fits (command_from (Place (Some last) r) is).0)
lasts_accepted m command a n is fits accepts = lasts_by n accepts.1 fits

lasts_answered : (m : Market) (c : Command) (first : Option Refusal) (a : Answer Outcome) (n : Market) → IsCommand c → LastsFit m.orders → Answers IsAdmissibleOutcome m c first a n → LastsFit n.orders
lasts_answered m c (Some refusal) a n is fits answers = lasts_by n answers.1 fits
lasts_answered m c None a n is fits answers = lasts_accepted m c a n is fits answers

lasts_read : (m : Market) (asked : Record) (read : Result Command BodyFault) (a : Answer Outcome) (n : Market) → IsReadAs m.version asked read → LastsFit m.orders → ServesRead IsAdmissibleOutcome m read a n → LastsFit n.orders
lasts_read m asked (Ok c) a n reads fits served = lasts_answered m c served.first a n reads.1.fits fits served.answered
lasts_read m asked (Err why) a n reads fits served = lasts_by n served.1 fits

lasts_follow : (m : Market) (pairs : List (Pair Record Outcome)) (n : Market) → LastsFit m.orders → Follows IsReadAs IsAdmissibleOutcome m pairs n → LastsFit n.orders
lasts_follow m [] n fits follows = lasts_by n follows fits
lasts_follow m (pair ∷ pairs) n fits (between, step, follows) =
    lasts_follow between pairs n (lasts_read m pair.asked step.read pair.answer between step.encoded fits step.served) follows

pub legal_journals_have_checkpoints : LegalJournalsHaveCheckpoints
legal_journals_have_checkpoints version pairs market legal few = record {
  consistent = legal_is_consistent version pairs market legal;
  next = omega (arith, orders_few (empty_market version) market pairs legal.steps, pairs_long pairs, length-append (journal_magic_of version) (flat_map pair_encoding pairs), few);
  last = lasts_follow (empty_market version) pairs market (All-nil (λ (o : Order). o.last < 2 ^ 32)) legal.steps;
  encoded = refl;
}

-- what begins a history is the market of a checkpoint, or the empty one, in which no order is
first_lasts : (start : Start) → CanStart start → LastsFit (market_of start).orders
first_lasts (Empty version) begins = All-nil (λ (o : Order). o.last < 2 ^ 32)
first_lasts (Kept market) begins = begins.last

pub histories_have_checkpoints : HistoriesHaveCheckpoints
histories_have_checkpoints start pairs market begins legal few = record {
  consistent = (journals_stay_consistent (market_of start) pairs market (consistent_start start begins) legal.steps);
  next = omega (arith, orders_few (market_of start) market pairs legal.steps, few);
  last = lasts_follow (market_of start) pairs market (first_lasts start begins) legal.steps;
  encoded = refl;
}
