-- Days that are checked one after the other are one history.
use Rattle.std.proofs.Common.{◌≡◌, ◌+◌, ◌<◌, ◌^◌, ℕ, List, [], ◌∷◌, ◌++◌, length, sym, ap, subst, ◌∙◌, append-nil, length-append, arith}
use Rattle.std.specs.List.{concat, flat_map}
use Rattle.std.proofs.lemmas.Grind.{flat_map-append}
use Rattle.wire_records.specs.Records.{Record}
use Rattle.wire_records.specs.Commands.{Pair}
use Rattle.flow_orders.specs.Outcomes.{Outcome}
use Rattle.journal_records.specs.Pairs.{pair_encoding}
use Rattle.market_rules.specs.Market.{Market}
use Rattle.market_rules.proofs.LawProofs.{journals_hold_deposits}
use Rattle.market_rules.proofs.Promised.{legal_journal_keeps_promises}
use Rattle.market_snapshot.specs.Checkpoints.{IsCheckpoint, checkpoint_bytes}
use Rattle.market_history.specs.Histories.{Start, Kept, CanStart, market_of, encode_start}
use Rattle.history_words.proofs.Starts.{one_start}
use Rattle.flow_exchange.specs.declared.form.Form.TheVariants.{Checkpoint}
use Rattle.exit_status.specs.declared.status.Status.TheVariants.{Done}
use Rattle.flow_exchange.specs.HistoryFiles.{AreLegalFrom}
use Rattle.flow_exchange.specs.Program.{ComesTo}
use Rattle.flow_exchange.proofs.HistoryOf.{consistent_start}
use Rattle.flow_laws.specs.Days.{AreDays, DaysAreOneHistory}
use Rattle.flow_laws.proofs.RunsAudited.{pairs_short}
use Rattle.flow_laws.proofs.GoingOn.{orders_few}
use Rattle.flow_laws.proofs.CheckpointLaws.{checkpoints_of_histories, histories_have_checkpoints}
use Rattle.flow_laws.proofs.CutHistories.{histories_go_on}

-- The days are these entries, which lead to the market of the last checkpoint.
record LeadTo (start : Start) (days : List (List ℕ)) (ends : List ℕ) : Type 0 where
  pairs : List (Pair Record Outcome)
  market : Market
  legal : AreLegalFrom start pairs market
  encoded : concat days ≡ flat_map pair_encoding pairs
  ends_in : ends ≡ checkpoint_bytes market

-- one day that is checked has valid entries from its beginning on
one_day : (limit : ℕ) (start : Start) (day text : List ℕ) → CanStart start → ComesTo Checkpoint limit (encode_start start ++ day) Done text → LeadTo start (day ∷ []) text
one_day limit start day text begins is =
    let (other, pairs, market, so, writes) = (checkpoints_of_histories.done limit (encode_start start ++ day) text).0 is in
    let one = one_start start other day (flat_map pair_encoding pairs) begins so.begins so.encoded in
    record {
      pairs = pairs;
      market = market;
      legal = subst (λ (s : Start). AreLegalFrom s pairs market) (sym one.0) so.legal;
      encoded = append-nil day ∙ one.1;
      ends_in = writes;
    }

-- the numbers that the orders of later days may get stay below the bound
later_few : (start : Start) (pairs : List (Pair Record Outcome)) (market : Market) (day rest : List ℕ) → AreLegalFrom start pairs market → day ≡ flat_map pair_encoding pairs
    → (market_of start).next_order + length (day ++ rest) < 2 ^ 63 → ((market_of start).next_order + length pairs < 2 ^ 63) × (market.next_order + length rest < 2 ^ 63)
later_few start pairs market day rest legal is few = (
  omega (arith, pairs_short pairs, ap length is, length-append day rest, few),
  omega (arith, pairs_short pairs, ap length is, length-append day rest, orders_few (market_of start) market pairs legal.steps, few),
)

lead : (limit : ℕ) (start : Start) (day : List ℕ) (days : List (List ℕ)) (ends : List ℕ) → CanStart start → (market_of start).next_order + length (concat (day ∷ days)) < 2 ^ 63
    → AreDays limit (encode_start start) (day ∷ days) ends → LeadTo start (day ∷ days) ends
lead limit start day [] ends begins few (next, is, same) = one_day limit start day ends begins (subst (λ (xs : List ℕ). ComesTo Checkpoint limit (encode_start start ++ day) Done xs) (sym same) is)
lead limit start day (other ∷ days) ends begins few (next, is, rest) =
    let first = one_day limit start day next begins is in
    let encoded : day ≡ flat_map pair_encoding first.pairs = sym (append-nil day) ∙ first.encoded in
    let within = later_few start first.pairs first.market day (concat (other ∷ days)) first.legal encoded few in
    let kept : IsCheckpoint first.market (checkpoint_bytes first.market) = histories_have_checkpoints start first.pairs first.market begins first.legal within.0 in
    let on = lead limit (Kept first.market) other days ends kept within.1 (subst (λ (xs : List ℕ). AreDays limit xs (other ∷ days) ends) first.ends_in rest) in
    record {
      pairs = first.pairs ++ on.pairs;
      market = on.market;
      legal = (histories_go_on.cut start first.pairs on.pairs first.market on.market first.legal).0 on.legal;
      encoded = ap (λ (xs : List ℕ). xs ++ concat (other ∷ days)) encoded ∙ ap (λ (xs : List ℕ). flat_map pair_encoding first.pairs ++ xs) on.encoded ∙ sym (flat_map-append pair_encoding first.pairs on.pairs);
      ends_in = on.ends_in;
    }

pub days_are_one_history : DaysAreOneHistory
days_are_one_history limit start day days ends begins few are =
    let all = lead limit start day days ends begins few are in
    let consistent = consistent_start start begins in
    record {
      pairs = all.pairs;
      market = all.market;
      legal = all.legal;
      encoded = all.encoded;
      ends_in = all.ends_in;
      deposits = journals_hold_deposits (market_of start) all.pairs all.market consistent all.legal.steps;
      keeps = legal_journal_keeps_promises (market_of start) all.pairs all.market consistent all.legal.steps;
      whole = λ most within. (checkpoints_of_histories.done most (encode_start start ++ concat (day ∷ days)) ends).1 (
        start,
        all.pairs,
        all.market,
        record { begins = begins; legal = all.legal; encoded = ap (λ (xs : List ℕ). encode_start start ++ xs) all.encoded; within = within },
        all.ends_in,
      );
    }
