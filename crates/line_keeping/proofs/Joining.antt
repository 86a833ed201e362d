-- Commands and lines that are answered one after the other: one more of either.
use Rattle.std.proofs.Common.{◌≡◌, ℕ, ◌+◌, List, [], ◌∷◌, ◌++◌, length, length-append, refl, sym, ap, subst, ◌∙◌, arith, append_assoc}
use Rattle.std.proofs.lemmas.List.{append-nil}
use Rattle.wire_records.specs.Records.{Record}
use Rattle.wire_records.specs.Commands.{Command, Pair}
use Rattle.wire_records.specs.Versions.{IsReadAs}
use Rattle.flow_orders.specs.Outcomes.{Outcome}
use Rattle.canonical_rule.specs.Canonical.{IsCanonicalOutcome}
use Rattle.journal_records.specs.Formats.{records_of}
use Rattle.market_rules.specs.Market.{Market}
use Rattle.market_rules.specs.Journal.{Step}
use Rattle.batch_report.specs.Reports.{IsReport}
use Rattle.line_keeping.specs.Answers.{AreAnswered, IsLineAnswered, AreLinesAnswered}
use Rattle.line_keeping.specs.Private.{IsServed}

abbrev pub Pairs : Type 0
Pairs = List (Pair Record Outcome)

abbrev pub Texts : Type 0
Texts = List (List ℕ)

-- one command more
pub answered_more : (old : Market) (count : ℕ) (commands : List Command) (pairs : Pairs) (texts : Texts) (mid : Market) (command : Command) (pair : Pair Record Outcome) (text : List ℕ) (new : Market) (number : ℕ)
    → AreAnswered old count commands pairs texts mid → IsServed command mid pair new → number ≡ count + length pairs + 1 → IsReport new number (records_of pair) text
    → AreAnswered old count (commands ++ command ∷ []) (pairs ++ pair ∷ []) (texts ++ text ∷ []) new
answered_more old count [] pairs texts mid command pair text new number (none, no_texts, same) served is report =
    let one : number ≡ count + 1 = omega (arith, is, ap length none) in (
      pair,
      text,
      new,
      [],
      [],
      served.asked,
      subst (λ (m : Market). Step IsReadAs IsCanonicalOutcome m pair.asked pair.answer new) same served.step,
      subst (λ (n : ℕ). IsReport new n (records_of pair) text) one report,
      (refl, refl, refl),
      ap (λ (l : Pairs). l ++ pair ∷ []) none,
      ap (λ (l : Texts). l ++ text ∷ []) no_texts,
    )
answered_more old count (c ∷ commands) pairs texts mid command pair text new number (p, t, next, more, others, asked, step, told, rest, pairs_are, texts_are) served is report = (
  p,
  t,
  next,
  more ++ pair ∷ [],
  others ++ text ∷ [],
  asked,
  step,
  told,
  answered_more next (count + 1) commands more others mid command pair text new number rest served (omega (arith, is, ap length pairs_are)) report,
  ap (λ (l : Pairs). l ++ pair ∷ []) pairs_are,
  ap (λ (l : Texts). l ++ text ∷ []) texts_are,
)

-- one line more
pub lines_more : (old : Market) (count number : ℕ) (lines : Texts) (pairs : Pairs) (texts : Texts) (mid : Market) (line : List ℕ) (more : Pairs) (own : Texts) (new : Market) (c n : ℕ)
    → AreLinesAnswered old count number lines pairs texts mid → c ≡ count + length pairs → n ≡ number + length lines → IsLineAnswered mid c n line more own new
    → AreLinesAnswered old count number (lines ++ line ∷ []) (pairs ++ more) (texts ++ own) new
lines_more old count number [] pairs texts mid line more own new c n (none, no_texts, same) c_is n_is one =
    let at_count : c ≡ count = omega (arith, c_is, ap length none) in
    let at_number : n ≡ number = omega (arith, n_is) in (
      more,
      own,
      new,
      [],
      [],
      subst (λ (m : Market). IsLineAnswered m count number line more own new) same (subst (λ (x : ℕ). IsLineAnswered mid count x line more own new) at_number (subst (λ (x : ℕ). IsLineAnswered mid x n line more own new) at_count one)),
      (refl, refl, refl),
      ap (λ (l : Pairs). l ++ more) none ∙ sym (append-nil more),
      ap (λ (l : Texts). l ++ own) no_texts ∙ sym (append-nil own),
    )
lines_more old count number (l ∷ lines) pairs texts mid line more own new c n (first, words, next, rest, others, answered, later, pairs_are, texts_are) c_is n_is one = (
  first,
  words,
  next,
  rest ++ more,
  others ++ own,
  answered,
  lines_more next (count + length first) (number + 1) lines rest others mid line more own new c n later (omega (arith, c_is, ap length pairs_are, length-append first rest)) (omega (arith, n_is)) one,
  ap (λ (x : Pairs). x ++ more) pairs_are ∙ append_assoc first rest more,
  ap (λ (x : Texts). x ++ own) texts_are ∙ append_assoc words others own,
)
