-- Two runs that continue one file: the entries that it had are alike, and those after them have one outcome by the canonical rule.
use Rattle.std.proofs.Common.{◌≡◌, [], ◌∷◌, ◌++◌, refl, sym, ap, subst, ◌∙◌}
use Rattle.wire_records.specs.Records.{Record}
use Rattle.wire_records.specs.Commands.{Answer, Pair}
use Rattle.wire_records.specs.Versions.{IsReadAs}
use Rattle.wire_records.proofs.Readings.{reading_unique, read_own}
use Rattle.flow_orders.specs.Outcomes.{Outcome, IsAdmissibleOutcome}
use Rattle.canonical_rule.specs.Canonical.{IsCanonicalOutcome}
use Rattle.market_rules.specs.Market.{Market, IsConsistent}
use Rattle.market_rules.specs.Journal.{Step, Follows}
use Rattle.market_rules.proofs.OneJournal.{step_market}
use Rattle.market_rules.proofs.LawProofs.{journals_stay_consistent}
use Rattle.canonical_journals.proofs.OneCanonicalJournal.{own_step}
use Rattle.canonical_journals.proofs.CanonicalIsLegal.{canonical_follows_are_admissible}
use Rattle.desk_keeping.specs.Hosting.{Entries}
use Rattle.host_laws.proofs.Together.{heads, StayAlike}

-- Two lists of entries that come from a consistent market on: the same entries first, and then entries by the canonical rule.
pub record AreContinued (m : Market) (p q : Entries) : Type 0 where
  pub consistent : IsConsistent m
  pub old : Entries
  pub new : Entries
  pub other : Entries
  pub parts : p ≡ old ++ new
  pub also : q ≡ old ++ other
  pub between : Market
  pub after : Market
  pub last : Market
  pub steps : Follows IsReadAs IsAdmissibleOutcome m old between
  pub follows : Follows IsReadAs IsCanonicalOutcome between new after
  pub moves : Follows IsReadAs IsCanonicalOutcome between other last

same_pair : (p q : Pair Record Outcome) → p.asked ≡ q.asked → p.answer ≡ q.answer → p ≡ q
same_pair p q asked answer =
    let made : Record → Answer Outcome → Pair Record Outcome = λ a b. record { asked = a; answer = b } in
    ap (λ a. made a p.answer) asked ∙ ap (λ b. made q.asked b) answer

module _ (m n : Market) (v w : Pair Record Outcome) (more others : Entries) (consistent : IsConsistent m) (step : Step IsReadAs IsAdmissibleOutcome m v.asked v.answer n) where
  stays_consistent : IsConsistent n
  stays_consistent = journals_stay_consistent m (v ∷ []) n consistent (n, step, refl)

  -- the next entry is an old one
  old_stays : (first : Pair Record Outcome) (old new other : Entries) (between after last : Market) → v ∷ more ≡ first ∷ (old ++ new) → w ∷ others ≡ first ∷ (old ++ other) → Follows IsReadAs IsAdmissibleOutcome m (first ∷ old) between
      → Follows IsReadAs IsCanonicalOutcome between new after → Follows IsReadAs IsCanonicalOutcome between other last → (v ≡ w) × AreContinued n more others
  old_stays first old new other between after last parts also (mid, move, steps) follows moves =
      let one = heads v first more (old ++ new) parts in
      let two = heads w first others (old ++ other) also in
      let same : mid ≡ n = step_market IsReadAs reading_unique IsAdmissibleOutcome m v.asked v.answer mid n (subst (λ (z : Pair Record Outcome). Step IsReadAs IsAdmissibleOutcome m z.asked z.answer mid) (sym one.0) move) step in (
        one.0 ∙ sym two.0,
        record {
          consistent = stays_consistent;
          old = old;
          new = new;
          other = other;
          parts = one.1;
          also = two.1;
          between = between;
          after = after;
          last = last;
          steps = subst (λ (k : Market). Follows IsReadAs IsAdmissibleOutcome k old between) same steps;
          follows = follows;
          moves = moves;
        },
      )

  -- it is one by the canonical rule
  new_stays : (after last : Market) → v.asked ≡ w.asked → Follows IsReadAs IsCanonicalOutcome m (v ∷ more) after → Follows IsReadAs IsCanonicalOutcome m (w ∷ others) last → (v ≡ w) × AreContinued n more others
  new_stays after last asked (x, here, rest) (y, there, left) =
      let one = own_step IsReadAs reading_unique m v.asked v.answer w.answer x y here (subst (λ r. Step IsReadAs IsCanonicalOutcome m r w.answer y) (sym asked) there) in
      let (z, valid, z_is) = canonical_follows_are_admissible IsReadAs read_own m (v ∷ []) x consistent (x, here, refl) in
      let same : x ≡ n = z_is ∙ step_market IsReadAs reading_unique IsAdmissibleOutcome m v.asked v.answer z n valid step in (
        same_pair v w asked one.0,
        record {
          consistent = stays_consistent;
          old = [];
          new = more;
          other = others;
          parts = refl;
          also = refl;
          between = n;
          after = after;
          last = last;
          steps = refl;
          follows = subst (λ (k : Market). Follows IsReadAs IsCanonicalOutcome k more after) same rest;
          moves = subst (λ (k : Market). Follows IsReadAs IsCanonicalOutcome k others last) (sym one.1 ∙ same) left;
        },
      )

  next_stays : (old new other : Entries) (between after last : Market) → v ∷ more ≡ old ++ new → w ∷ others ≡ old ++ other → v.asked ≡ w.asked → Follows IsReadAs IsAdmissibleOutcome m old between
      → Follows IsReadAs IsCanonicalOutcome between new after → Follows IsReadAs IsCanonicalOutcome between other last → (v ≡ w) × AreContinued n more others
  next_stays [] new other between after last parts also asked steps follows moves =
      new_stays after last asked
      (subst (λ (l : Entries). Follows IsReadAs IsCanonicalOutcome m l after) (sym parts) (subst (λ (k : Market). Follows IsReadAs IsCanonicalOutcome k new after) steps follows))
      (subst (λ (l : Entries). Follows IsReadAs IsCanonicalOutcome m l last) (sym also) (subst (λ (k : Market). Follows IsReadAs IsCanonicalOutcome k other last) steps moves))
  next_stays (first ∷ old) new other between after last parts also asked steps follows moves = old_stays first old new other between after last parts also steps follows moves

pub continued_stays : StayAlike AreContinued
continued_stays = record {
  one = λ m n k v w more others are asked step move. next_stays m n v w more others are.consistent step are.old are.new are.other are.between are.after are.last are.parts are.also asked are.steps are.follows are.moves;
}
