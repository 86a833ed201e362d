-- Adding entries that stopped: after the last one, at some that weren't kept together or not all answered, and after entries that were added before.
use Rattle.std.proofs.Common.{ℕ, ◌+◌, ◌≤◌, List, [], ◌++◌, IsSome, All, length, length-append, map, refl, sym, subst, arith, append_assoc}
use Rattle.std.proofs.lemmas.List.{append-nil}
use Rattle.std.proofs.lemmas.List.Elements.{All-append}
use Rattle.wire_records.specs.Versions.{IsReadAs}
use Rattle.wire_records.proofs.Readings.{reading_unique}
use Rattle.canonical_rule.specs.Canonical.{IsCanonicalOutcome}
use Rattle.journal_records.specs.Pairs.{IsPair}
use Rattle.journal_records.specs.Formats.{records_of}
use Rattle.market_rules.specs.Market.{Market}
use Rattle.market_rules.specs.Journal.{Follows}
use Rattle.market_rules.proofs.OneJournal.{follows-append}
use Rattle.disk_edge.specs.Disks.{DiskState, IsDisk, AtEachMoment}
use Rattle.journal_disk.specs.Pairs.{RecordPair}
use Rattle.journal_disk.specs.Entries.{Head, WithOrWithout, Keeps}
use Rattle.journal_keeping.specs.Starts.{head_of}
use Rattle.journal_keeping.specs.Keeping.{Runs}
use Rattle.journal_keeping.specs.Outputs.{Output, Gains}
use Rattle.journal_keeping.specs.Private.{KeepsMore, HasAdded, HasStopped}
use Rattle.journal_keeping.proofs.Serving.{goes_more, failed, ended}
use Rattle.journal_keeping.proofs.Turns.{Pairs}
use Rattle.journal_keeping.proofs.Gaining.{gains_wider, gains_more}
use Rattle.journal_keeping.proofs.Adding.{goes_both, runs_after, added_together}

module _ (Failed Cut : Type 0) (start now : DiskState) (before market : Market) (from place : ℕ) (new : Pairs) (so : HasAdded start now before market from place new) (out later : Output) (texts : List (List ℕ)) (gained : Gains Cut out later texts) where
  -- after the last entry
  pub stops_after : {together : ℕ} → HasStopped together Failed Cut before market from start now out later new [] texts
  stops_after {together} = record {
    goes_on = λ begin old is at. (so.kept begin old is at).goes_on;
    runs = λ begin old is at. subst (λ (l : Pairs). Runs together begin start now old before l (length new)) (sym (append-nil new)) (ended begin together (length new) start now old before place new market (omega arith) (omega arith) (so.kept begin old is at));
    gained = gained;
    whole = λ not. (refl, λ begin old is at. (place, (so.kept begin old is at).keeps));
  }

  -- at entries that weren't kept together
  pub stops_failed : {together : ℕ} → Failed → (next : DiskState) (after : Market) (more : Pairs) → IsDisk next → All IsPair more → Follows IsReadAs IsCanonicalOutcome market more after → length more ≤ together
      → ((head : Head) (pairs : List RecordPair) → Keeps head pairs place now → AtEachMoment now next (WithOrWithout head pairs (map records_of more)))
      → HasStopped together Failed Cut before market from start next out later new more texts
  stops_failed {together} fails next after more is_disk fits steps few moments = record {
    goes_on = λ begin old is at. (so.kept begin old is at).goes_on;
    runs = λ begin old is at.
        let kept = so.kept begin old is at in
        let runs = failed begin (old ++ new) more market after kept.goes_on.journal fits steps now next (moments (head_of begin) (map records_of (old ++ new)) kept.keeps) together few is_disk in
        subst (λ (n : ℕ). Runs together begin start next old before (new ++ more) n) (omega arith) (runs_after begin start now old new before market place kept more together next 0 runs);
    gained = gained;
    whole = λ not. absurd (not fails);
  }

-- At entries that were kept together, of which only the first were answered.
pub stops_untold : {together : ℕ} (Failed Cut : Type 0) (start now next : DiskState) (before market mid after : Market) (from place to : ℕ) (new first rest : Pairs) (out later : Output) (texts : List (List ℕ)) → Failed
    → HasAdded start now before market from place new → All IsPair first → All IsPair rest → Follows IsReadAs IsCanonicalOutcome market first mid → Follows IsReadAs IsCanonicalOutcome mid rest after → length rest ≤ together
    → KeepsMore (first ++ rest) place to now next → (IsSome next.content → IsSome now.content) → Gains Cut out later texts → HasStopped together Failed Cut before mid from start next out later (new ++ first) rest texts
stops_untold {together} Failed Cut start now next before market mid after from place to new first rest out later texts fails so fits others begins goes few keeps told gained =
    let all = added_together start now next before market after from place to new (first ++ rest) so (All-append IsPair first rest fits others)
    (follows-append IsReadAs reading_unique IsCanonicalOutcome market mid after first rest begins goes) keeps told in
    record {
      goes_on = λ begin old is at.
          let kept = so.kept begin old is at in
          goes_both begin start now old new before market place kept first mid (goes_more begin (old ++ new) first market mid kept.goes_on.journal fits begins);
      runs = λ begin old is at.
          subst (λ (l : Pairs). Runs together begin start next old before l (length (new ++ first))) (sym (append_assoc new first rest))
          (ended begin together (length (new ++ first)) start next old before to (new ++ (first ++ rest)) after (omega (arith, length-append new (first ++ rest), length-append first rest, length-append new first))
          (omega (arith, few, length-append new (first ++ rest), length-append first rest, length-append new first)) (all.kept begin old is at));
      gained = gained;
      whole = λ not. absurd (not fails);
    }

-- what may have failed in more cases
pub stops_wider : {together : ℕ} (Failed Other Cut Wider : Type 0) (before now : Market) (from : ℕ) (start end : DiskState) (out later : Output) (new more : Pairs) (texts : List (List ℕ)) → (Failed → Other) → (Cut → Wider)
    → HasStopped together Failed Cut before now from start end out later new more texts → HasStopped together Other Wider before now from start end out later new more texts
stops_wider Failed Other Cut Wider before now from start end out later new more texts fails cut stops = record {
  goes_on = stops.goes_on;
  runs = stops.runs;
  gained = gains_wider Cut Wider out later texts cut stops.gained;
  whole = λ not. stops.whole (λ is. not (fails is));
}

-- entries were added, and answered, before
pub stops_later : {together : ℕ} (Failed Cut : Type 0) (start mid end : DiskState) (before m now : Market) (from place : ℕ) (first new more : Pairs) (out middle later : Output) (texts others : List (List ℕ))
    → HasAdded start mid before m from place first → Gains ⊥ out middle texts → HasStopped together Failed Cut m now place mid end middle later new more others
    → HasStopped together Failed Cut before now from start end out later (first ++ new) more (texts ++ others)
stops_later {together} Failed Cut start mid end before m now from place first new more out middle later texts others added gained stops = record {
  goes_on = λ begin old is at.
      let k = added.kept begin old is at in
      goes_both begin start mid old first before m place k new now (stops.goes_on begin (old ++ first) k.goes_on.journal k.keeps);
  runs = λ begin old is at.
      let k = added.kept begin old is at in
      let runs = runs_after begin start mid old first before m place k (new ++ more) together end (length new) (stops.runs begin (old ++ first) k.goes_on.journal k.keeps) in
      subst (λ (n : ℕ). Runs together begin start end old before ((first ++ new) ++ more) n) (sym (length-append first new))
      (subst (λ (l : Pairs). Runs together begin start end old before l (length first + length new)) (sym (append_assoc first new more)) runs);
  gained = gains_more Cut out middle later texts others gained stops.gained;
  whole = λ not.
      let w = stops.whole not in (
        w.0,
        λ begin old is at.
            let k = added.kept begin old is at in
            let keeps = w.1 begin (old ++ first) k.goes_on.journal k.keeps in
            (keeps.0, subst (λ (l : Pairs). Keeps (head_of begin) (map records_of l) keeps.0 end) (append_assoc old first new) keeps.1),
      );
}
