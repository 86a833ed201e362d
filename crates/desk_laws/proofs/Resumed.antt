-- Lines that are resumed on the entries of a file.
use Rattle.std.proofs.Common.{inl, inr, ℕ, List, ◌++◌, subst}
use Rattle.wire_records.specs.Versions.{IsReadAs}
use Rattle.wire_records.proofs.Readings.{reading_unique}
use Rattle.flow_orders.specs.Outcomes.{BatchRule, IsAdmissibleOutcome}
use Rattle.canonical_rule.specs.Canonical.{IsCanonicalOutcome}
use Rattle.market_rules.specs.Market.{Market}
use Rattle.market_rules.specs.Journal.{Follows}
use Rattle.market_rules.specs.Laws.{Leads}
use Rattle.market_rules.proofs.OneJournal.{follows-append, follows-parts}
use Rattle.desk_messages.specs.Desks.{Desks}
use Rattle.desk_lines.specs.Laws.{OneHearing, OneWish}
use Rattle.desk_session.specs.Lines.{AreFirstServed}
use Rattle.desk_session.proofs.Going.{follows_lines, follows_into}
use Rattle.desk_laws.specs.Laws.{Entries, Texts, ResumedLinesAreOneRun}
use Rattle.desk_laws.proofs.Again.{two_follows, lines_by, first_by, lines_once}
use Rattle.desk_laws.proofs.Some.{first_lines_get_first_parts}

-- the entries of the first lines are steps
first_follows : (Rule : BatchRule) (old : Market) (d : Desks) (count : ℕ) (lines : List (List ℕ)) (p : Entries) (t : Texts) → (is : AreFirstServed Rule old d count lines p t) → Follows IsReadAs Rule old p is.new
first_follows Rule old d count lines p t is =
    elim is.served [
      | inl served ↦ follows_lines Rule is.whole p t old is.new d is.later count served
      | inr into ↦ follows_into Rule old is.new d is.later count is.whole into.0 into.2 p t into.4
    ]

-- all that a file has then was made by the canonical rule
all_canonical : (start before new : Market) (d : Desks) (count : ℕ) (earlier : List (List ℕ)) (old lost more : Entries) (told : Texts)
    → AreFirstServed IsCanonicalOutcome start d count earlier (old ++ lost) told → Leads start old before → Follows IsReadAs IsCanonicalOutcome before more new
    → Follows IsReadAs IsCanonicalOutcome start (old ++ more) new
all_canonical start before new d count earlier old lost more told first leads goes =
    let (mid, kept, rest) = follows-parts IsReadAs reading_unique IsCanonicalOutcome start first.new old lost (first_follows IsCanonicalOutcome start d count earlier (old ++ lost) told first) in
    let here = two_follows IsAdmissibleOutcome IsCanonicalOutcome start old before mid leads kept in
    follows-append IsReadAs reading_unique IsCanonicalOutcome start before new old more (subst (λ z. Follows IsReadAs IsCanonicalOutcome start old z) here kept) goes

pub resumed_lines_are_one_run : OneHearing → OneWish → ResumedLinesAreOneRun
resumed_lines_are_one_run one_hearing one_wish = record {
  all = λ start before d count earlier lines old lost more p told texts t new m n x y first leads goes served all.
      let whole = all_canonical start before new d count earlier old lost more told first leads goes in
      lines_once one_hearing one_wish lines (old ++ more) p texts t start m n d x y count (lines_by IsAdmissibleOutcome IsCanonicalOutcome lines (old ++ more) texts start m new d x count served whole).0 all;
  first = λ start before d count earlier lines old lost more p told texts t new n y first leads goes served all.
      let whole = all_canonical start before new d count earlier old lost more told first leads goes in
      first_lines_get_first_parts one_hearing one_wish start d count lines (old ++ more) p texts t n y
      (first_by IsAdmissibleOutcome IsCanonicalOutcome start new d count lines (old ++ more) texts served whole) all;
}
