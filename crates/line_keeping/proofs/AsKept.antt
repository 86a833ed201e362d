-- The entries of lines that are all blank or commands are those that answer the records of the commands.
use Rattle.std.proofs.Common.{◌≡◌, inl, inr, ℕ, ◌+◌, List, [], ◌∷◌, ◌++◌, All, length, map, refl, sym, ap, subst, ◌∙◌}
use Rattle.std.proofs.lemmas.List.{map-append}
use Rattle.std.proofs.lemmas.List.Elements.{All-head, All-tail}
use Rattle.wire_records.specs.Records.{Record}
use Rattle.wire_records.specs.Commands.{Command, Pair}
use Rattle.wire_records.specs.CommandRecords.{record_of}
use Rattle.wire_records.specs.Versions.{IsReadAs}
use Rattle.wire_records.specs.declared.version.Version.{Version}
use Rattle.wire_records.proofs.Readings.{read_own, reading_unique}
use Rattle.flow_orders.specs.Outcomes.{Outcome}
use Rattle.canonical_rule.specs.Canonical.{IsCanonicalOutcome}
use Rattle.market_rules.specs.Market.{Market, IsConsistent}
use Rattle.market_rules.specs.Journal.{IsAnswered}
use Rattle.market_rules.proofs.LawProofs.{journals_stay_consistent}
use Rattle.market_rules.proofs.OneJournal.{follows-append}
use Rattle.market_rules.proofs.Versions.{follows_version}
use Rattle.canonical_journals.proofs.CanonicalIsLegal.{canonical_follows_are_admissible}
use Rattle.order_text.specs.Lines.{Asked, commands_of, Says}
use Rattle.order_text.proofs.Fitting.{commands_fit}
use Rattle.order_text.proofs.OneAnswers.{one_saying}
use Rattle.line_records.specs.Lines.{Say}
use Rattle.input_lines.specs.Long.{IsLong}
use Rattle.line_keeping.specs.Answers.{AreAnswered, IsLineAnswered, AreLinesAnswered}
use Rattle.line_keeping.specs.Laws.{AnswersAsKept}
use Rattle.line_keeping.proofs.Joining.{Pairs, Texts}
use Rattle.line_keeping.proofs.Asking.{answered_leave}

abbrev Answered : Market → List Command → Pairs → Market → Type 0
Answered old commands pairs new = IsAnswered IsReadAs IsCanonicalOutcome old (map record_of commands) pairs new

-- the entries of commands answer their records
commands_answered : (old : Market) (count : ℕ) (commands : List Command) (pairs : Pairs) (texts : Texts) (new : Market) → AreAnswered old count commands pairs texts new → Answered old commands pairs new
commands_answered old count [] pairs texts new (none, no_texts, same) =
    subst (λ (l : Pairs). Answered old [] l new) (sym none) (record { asked = refl; steps = same })
commands_answered old count (command ∷ commands) pairs texts new (pair, text, next, more, others, asked, step, told, rest, pairs_are, texts_are) =
    let later = commands_answered next (count + 1) commands more others new rest in
    subst (λ (l : Pairs). Answered old (command ∷ commands) l new) (sym pairs_are) (record {
      asked = ap (λ (r : Record). r ∷ map (λ (p : Pair Record Outcome). p.asked) more) asked ∙ ap (λ (l : List Record). record_of command ∷ l) later.asked;
      steps = (next, step, later.steps);
    })

-- entries that answer commands, and then more of either
answered_both : (old mid new : Market) (commands others : List Command) (pairs more : Pairs) → Answered old commands pairs mid → Answered mid others more new → Answered old (commands ++ others) (pairs ++ more) new
answered_both old mid new commands others pairs more first second = record {
  asked = map-append (λ (p : Pair Record Outcome). p.asked) pairs more ∙ ap (λ (l : List Record). l ++ map (λ (p : Pair Record Outcome). p.asked) more) first.asked
      ∙ ap (λ (l : List Record). map record_of commands ++ l) second.asked ∙ sym (map-append record_of commands others);
  steps = follows-append IsReadAs reading_unique IsCanonicalOutcome old mid new pairs more first.steps second.steps;
}

-- what was answered as it is kept, and the tickers that it leaves
abbrev AsKept : Market → List Command → Texts → Pairs → Market → Type 0
AsKept old commands tickers pairs new = Answered old commands pairs new × (tickers ≡ new.tickers)

-- a line that says something, in a consistent market
line_as_kept : (old : Market) (count number : ℕ) (line : List ℕ) (asked : Asked) (tickers : Texts) (pairs : Pairs) (texts : Texts) (new : Market) → IsConsistent old → ¬ IsLong line → Says old.version old.tickers line asked tickers
    → IsLineAnswered old count number line pairs texts new → AsKept old (commands_of asked) tickers pairs new × IsConsistent new × (new.version ≡ old.version)
line_as_kept old count number line asked tickers pairs texts new consistent short says (inl blank) = absurd (says.asks.written blank.0.1)
line_as_kept old count number line asked tickers pairs texts new consistent short says (inr (inl (inl long, no_pairs, told, same))) = absurd (short long)
line_as_kept old count number line asked tickers pairs texts new consistent short says (inr (inl (inr none, no_pairs, told, same))) = absurd (none.no_command asked says.asks)
line_as_kept old count number line asked tickers pairs texts new consistent short says (inr (inr (other, asks, answered))) =
    let fit = commands_fit old.version old.tickers line other consistent.tickers asks.1 in
    let leave = answered_leave old.version old count (commands_of other) pairs texts new refl fit.0 fit.1 answered in
    let one = one_saying old.version old.tickers line asked other tickers new.tickers says (record { asks = asks.1; leaves = leave }) in
    let kept = commands_answered old count (commands_of other) pairs texts new answered in
    let right = canonical_follows_are_admissible IsReadAs read_own old pairs new consistent kept.steps in (
      (subst (λ (x : Asked). Answered old (commands_of x) pairs new) (sym one.0) kept, one.1),
      journals_stay_consistent old pairs new consistent right,
      follows_version IsCanonicalOutcome IsReadAs old pairs new kept.steps,
    )

-- lines that say something, or are blank
lines_as_kept : (old : Market) (count number : ℕ) (lines : Texts) (commands : List Command) (tickers : Texts) (pairs : Pairs) (texts : Texts) (new : Market) → IsConsistent old → All (λ line. ¬ IsLong line) lines
    → Say old.version old.tickers lines commands tickers → AreLinesAnswered old count number lines pairs texts new → AsKept old commands tickers pairs new
lines_as_kept old count number [] commands tickers pairs texts new consistent short (none, left) (no_pairs, no_texts, same) = (
  subst (λ (l : List Command). Answered old l pairs new) (sym none) (subst (λ (l : Pairs). Answered old [] l new) (sym no_pairs) (record { asked = refl; steps = same })),
  left ∙ ap (λ (m : Market). m.tickers) (sym same),
)
lines_as_kept old count number (line ∷ lines) commands tickers pairs texts new consistent short (inl (blank, say)) (first, own, next, more, others, inl (none, no_pairs, no_texts, same), rest, pairs_are, texts_are) =
    let here = subst (λ (m : Market). AreLinesAnswered m (count + length first) (number + 1) lines more others new) same rest in
    let later = lines_as_kept old (count + length first) (number + 1) lines commands tickers more others new consistent (All-tail (λ (l : List ℕ). ¬ IsLong l) line lines short) say here in
    (subst (λ (l : Pairs). Answered old commands l new) (sym (pairs_are ∙ ap (λ (l : Pairs). l ++ more) no_pairs)) later.0, later.1)
lines_as_kept old count number (line ∷ lines) commands tickers pairs texts new consistent short (inl (blank, say)) (first, own, next, more, others, inr (inl (inl long, no_pairs, told, same)), rest, pairs_are, texts_are) =
    absurd (All-head (λ (l : List ℕ). ¬ IsLong l) line lines short long)
lines_as_kept old count number (line ∷ lines) commands tickers pairs texts new consistent short (inl (blank, say)) (first, own, next, more, others, inr (inl (inr says, no_pairs, told, same)), rest, pairs_are, texts_are) = absurd (says.written blank)
lines_as_kept old count number (line ∷ lines) commands tickers pairs texts new consistent short (inl (blank, say)) (first, own, next, more, others, inr (inr (asked, asks, answered)), rest, pairs_are, texts_are) = absurd (asks.1.written blank)
lines_as_kept old count number (line ∷ lines) commands tickers pairs texts new consistent short (inr (asked, left, between, says, say, commands_are)) (first, own, next, more, others, answered, rest, pairs_are, texts_are) =
    let one = line_as_kept old count number line asked between first own next consistent (All-head (λ (l : List ℕ). ¬ IsLong l) line lines short) says answered in
    let say_next = subst (λ (v : Version). Say v next.tickers lines left tickers) (sym one.2) (subst (λ (t : Texts). Say old.version t lines left tickers) one.0.1 say) in
    let later = lines_as_kept next (count + length first) (number + 1) lines left tickers more others new one.1 (All-tail (λ (l : List ℕ). ¬ IsLong l) line lines short) say_next rest in
    let both = answered_both old next new (commands_of asked) left first more one.0.0 later.0 in
    (subst (λ (l : List Command). Answered old l pairs new) (sym commands_are) (subst (λ (l : Pairs). Answered old (commands_of asked ++ left) l new) (sym pairs_are) both), later.1)

pub answers_as_kept : AnswersAsKept
answers_as_kept = lines_as_kept
