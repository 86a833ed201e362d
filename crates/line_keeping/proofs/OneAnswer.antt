-- Lines are answered in one way.
use Rattle.std.proofs.Common.{◌≡◌, inl, inr, ℕ, ◌+◌, List, [], ◌∷◌, ◌++◌, length, sym, ap, subst, ◌∙◌}
use Rattle.wire_records.specs.Records.{Record}
use Rattle.wire_records.specs.Commands.{Command, Answer, Pair}
use Rattle.wire_records.specs.Versions.{IsReadAs}
use Rattle.wire_records.proofs.Readings.{reading_unique}
use Rattle.flow_orders.specs.Outcomes.{Outcome}
use Rattle.canonical_rule.specs.Canonical.{IsCanonicalOutcome}
use Rattle.journal_records.specs.Formats.{records_of}
use Rattle.market_rules.specs.Market.{Market}
use Rattle.market_rules.specs.Journal.{Step}
use Rattle.canonical_journals.proofs.OneCanonicalJournal.{own_step}
use Rattle.order_text.specs.Lines.{Asked, commands_of}
use Rattle.batch_report.specs.Reports.{IsReport}
use Rattle.batch_report.proofs.OneReport.{one_report}
use Rattle.line_keeping.specs.Answers.{HasNoAnswer, IsNoCommand, AsksIn, AreAnswered, IsLineAnswered, AreLinesAnswered}
use Rattle.line_keeping.specs.Laws.{OneAnswer}
use Rattle.line_keeping.proofs.Joining.{Pairs, Texts}
use Rattle.line_keeping.proofs.Asking.{one_asked}

-- a record and its answer make one entry
same_pair : (p q : Pair Record Outcome) → p.asked ≡ q.asked → p.answer ≡ q.answer → p ≡ q
same_pair p q asked answer =
    let made : Record → Answer Outcome → Pair Record Outcome = λ r a. record { asked = r; answer = a } in
    ap (λ (r : Record). made r p.answer) asked ∙ ap (λ (a : Answer Outcome). made q.asked a) answer

-- what was answered, in one way
abbrev IsOne : Pairs → Pairs → Texts → Texts → Market → Market → Type 0
IsOne pairs others texts words new other = (pairs ≡ others) × (texts ≡ words) × (new ≡ other)

-- commands are answered in one way
one_answered : (old : Market) (count : ℕ) (commands : List Command) (pairs others : Pairs) (texts words : Texts) (new other : Market) → AreAnswered old count commands pairs texts new → AreAnswered old count commands others words other
    → IsOne pairs others texts words new other
one_answered old count [] pairs others texts words new other a b = (a.0 ∙ sym b.0, a.1 ∙ sym b.1, a.2 ∙ sym b.2)
one_answered old count (command ∷ commands) pairs others texts words new other (p, t, next, more, told, asked, step, report, rest, pairs_are, texts_are) (q, u, after, further, said, asks, steps, reports, following, others_are, words_are) =
    let same_asked : p.asked ≡ q.asked = asked ∙ sym asks in
    let one = own_step IsReadAs reading_unique old p.asked p.answer q.answer next after step (subst (λ (r : Record). Step IsReadAs IsCanonicalOutcome old r q.answer after) (sym same_asked) steps) in
    let same = same_pair p q same_asked one.0 in
    let text = one_report after (count + 1) (records_of q) t u (subst (λ (m : Market). IsReport m (count + 1) (records_of q) t) one.1 (subst (λ (x : Pair Record Outcome). IsReport next (count + 1) (records_of x) t) same report)) reports in
    let later = one_answered after (count + 1) commands more further told said new other (subst (λ (m : Market). AreAnswered m (count + 1) commands more told new) one.1 rest) following in (
      pairs_are ∙ ap (λ (x : Pair Record Outcome). x ∷ more) same ∙ ap (λ (l : Pairs). q ∷ l) later.0 ∙ sym others_are,
      texts_are ∙ ap (λ (x : List ℕ). x ∷ told) text ∙ ap (λ (l : Texts). u ∷ l) later.1 ∙ sym words_are,
      later.2,
    )

-- a line that has no answer is a command in no market, and doesn't say that it is none
blank_or_none : (m : Market) (line : List ℕ) → HasNoAnswer line → IsNoCommand m line → ⊥
blank_or_none m line a (inl long) = a.0 long
blank_or_none m line a (inr says) = says.written a.1

blank_or_asked : (m : Market) (line : List ℕ) (asked : Asked) → HasNoAnswer line → AsksIn m line asked → ⊥
blank_or_asked m line asked a b = b.1.written a.1

none_or_asked : (m : Market) (line : List ℕ) (asked : Asked) → IsNoCommand m line → AsksIn m line asked → ⊥
none_or_asked m line asked (inl long) b = b.0 long
none_or_asked m line asked (inr says) b = says.no_command asked b.1

-- a line is answered in one way
one_line : (old : Market) (count number : ℕ) (line : List ℕ) (pairs others : Pairs) (texts words : Texts) (new other : Market) → IsLineAnswered old count number line pairs texts new → IsLineAnswered old count number line others words other
    → IsOne pairs others texts words new other
one_line old count number line pairs others texts words new other (inl a) (inl b) = (a.1 ∙ sym b.1, a.2 ∙ sym b.2, a.3 ∙ sym b.3)
one_line old count number line pairs others texts words new other (inl a) (inr (inl b)) = absurd (blank_or_none old line a.0 b.0)
one_line old count number line pairs others texts words new other (inl a) (inr (inr b)) = absurd (blank_or_asked old line b.0 a.0 b.1)
one_line old count number line pairs others texts words new other (inr (inl a)) (inl b) = absurd (blank_or_none old line b.0 a.0)
one_line old count number line pairs others texts words new other (inr (inl a)) (inr (inl b)) = (a.1 ∙ sym b.1, a.2 ∙ sym b.2, a.3 ∙ sym b.3)
one_line old count number line pairs others texts words new other (inr (inl a)) (inr (inr b)) = absurd (none_or_asked old line b.0 a.0 b.1)
one_line old count number line pairs others texts words new other (inr (inr a)) (inl b) = absurd (blank_or_asked old line a.0 b.0 a.1)
one_line old count number line pairs others texts words new other (inr (inr a)) (inr (inl b)) = absurd (none_or_asked old line a.0 b.0 a.1)
one_line old count number line pairs others texts words new other (inr (inr a)) (inr (inr b)) =
    let same = one_asked old line a.0 b.0 a.1.1 b.1.1 in
    one_answered old count (commands_of b.0) pairs others texts words new other (subst (λ (x : Asked). AreAnswered old count (commands_of x) pairs texts new) same a.2) b.2

-- lines are answered in one way
one_lines : (old : Market) (count number : ℕ) (lines : Texts) (pairs others : Pairs) (texts words : Texts) (new other : Market) → AreLinesAnswered old count number lines pairs texts new → AreLinesAnswered old count number lines others words other
    → IsOne pairs others texts words new other
one_lines old count number [] pairs others texts words new other a b = (a.0 ∙ sym b.0, a.1 ∙ sym b.1, a.2 ∙ sym b.2)
one_lines old count number (line ∷ lines) pairs others texts words new other (p, t, next, more, told, answered, rest, pairs_are, texts_are) (q, u, after, further, said, answers, following, others_are, words_are) =
    let one = one_line old count number line p q t u next after answered answers in
    let here = subst (λ (m : Market). AreLinesAnswered m (count + length q) (number + 1) lines more told new) one.2 (subst (λ (l : Pairs). AreLinesAnswered next (count + length l) (number + 1) lines more told new) one.0 rest) in
    let later = one_lines after (count + length q) (number + 1) lines more further told said new other here following in (
      pairs_are ∙ ap (λ (l : Pairs). l ++ more) one.0 ∙ ap (λ (l : Pairs). q ++ l) later.0 ∙ sym others_are,
      texts_are ∙ ap (λ (l : Texts). l ++ told) one.1 ∙ ap (λ (l : Texts). u ++ l) later.1 ∙ sym words_are,
      later.2,
    )

pub one_answer : OneAnswer
one_answer = one_lines
