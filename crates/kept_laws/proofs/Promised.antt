-- Kept journals keep the promises of the exchange, and there are some.
use Rattle.std.proofs.Common.{◌≡◌, ◌+◌, ◌<◌, ◌^◌, List, [], ◌∷◌, All, length, refl, ap, subst, arith}
use Rattle.std.proofs.lemmas.List.Elements.{All-nil, All-cons, All-head, All-tail}
use Rattle.wire_records.specs.Records.{Record, AreBytes, IsRecord, most_body}
use Rattle.wire_records.specs.Commands.{Pair}
use Rattle.wire_records.specs.Versions.{IsReadAs}
use Rattle.wire_records.proofs.Readings.{reading_some, read_own}
use Rattle.flow_orders.specs.Outcomes.{Outcome, IsAdmissibleOutcome}
use Rattle.journal_records.specs.Pairs.{IsPair}
use Rattle.market_rules.specs.Market.{Market, IsConsistent}
use Rattle.market_rules.specs.Journal.{Follows}
use Rattle.market_rules.proofs.LawProofs.{steps_keep_consistency, journals_stay_consistent, journals_hold_deposits}
use Rattle.market_rules.proofs.Promised.{legal_journal_keeps_promises}
use Rattle.canonical_journals.proofs.LawProofs.{steps_number_one}
use Rattle.canonical_journals.proofs.CanonicalIsLegal.{canonical_follows_are_admissible}
use Rattle.market_history.specs.Histories.{Start, Empty, Kept, market_of, CanStart}
use Rattle.exchange_session.proofs.RunLaws.{has_step}
use Rattle.journal_keeping.specs.Dialogs.{asked_of}
use Rattle.kept_laws.specs.Laws.{KeptJournalsKeepPromises, SomeKeptJournal}

-- entries of a journal
abbrev pub Pairs : Type 0
Pairs = List (Pair Record Outcome)

-- a journal begins in a consistent market
pub starts_consistent : (begin : Start) → CanStart begin → IsConsistent (market_of begin)
starts_consistent (Empty version) starts = steps_keep_consistency.0 version
starts_consistent (Kept market) starts = starts.consistent

pub kept_journals_keep_promises : KeptJournalsKeepPromises
kept_journals_keep_promises begin pairs market journal =
    let begins = starts_consistent begin journal.starts in (
      journals_stay_consistent (market_of begin) pairs market begins journal.steps,
      journals_hold_deposits (market_of begin) pairs market begins journal.steps,
      legal_journal_keeps_promises (market_of begin) pairs market begins journal.steps,
    )

-- Records that were answered somehow, from a market on.
record Answered (old : Market) (records : List Record) : Type 0 where
  pairs : Pairs
  new : Market
  steps : Follows IsReadAs IsAdmissibleOutcome old pairs new
  asked : asked_of pairs ≡ records
  each : All IsPair pairs

abbrev HasBytes : Record → Type 0
HasBytes r = AreBytes r.body

answered_some : (old : Market) (records : List Record) → IsConsistent old → All (IsRecord most_body) records → All HasBytes records → old.next_order + length records < 2 ^ 64 → Answered old records
answered_some old [] consistent each bytes few = record { pairs = []; new = old; steps = refl; asked = refl; each = All-nil IsPair }
answered_some old (asked ∷ records) consistent each bytes few =
    let step = has_step old asked consistent (All-head (IsRecord most_body) asked records each) (λ version. reading_some version asked (All-head HasBytes asked records bytes)) in
    let one = step.2 in
    let pair : Pair Record Outcome = record { asked = asked; answer = one.answer } in
    let more = steps_number_one old asked one.answer step.0 one.step in
    let right = canonical_follows_are_admissible IsReadAs read_own old (pair ∷ []) step.0 consistent (step.0, one.step, refl) in
    let next = journals_stay_consistent old (pair ∷ []) step.0 consistent right in
    let rest = answered_some step.0 records next (All-tail (IsRecord most_body) asked records each) (All-tail HasBytes asked records bytes) (omega (arith, more, few)) in
    record {
      pairs = pair ∷ rest.pairs;
      new = rest.new;
      steps = (right.0, right.1, subst (λ (m : Market). Follows IsReadAs IsAdmissibleOutcome m rest.pairs rest.new) right.2 rest.steps);
      asked = ap (λ (l : List Record). asked ∷ l) rest.asked;
      each = All-cons IsPair pair rest.pairs (one.fits (omega (arith, more, few))) rest.each;
    }

pub some_kept_journal : SomeKeptJournal
some_kept_journal begin records starts each bytes few =
    let some = answered_some (market_of begin) records (starts_consistent begin starts) each bytes few in
    (some.pairs, some.new, record { starts = starts; each = some.each; steps = some.steps }, some.asked)
