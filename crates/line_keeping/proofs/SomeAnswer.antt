-- Lines are answered in some way.
use Rattle.std.proofs.Common.{◌⊎◌, inl, inr, ℕ, ◌+◌, ◌*◌, ◌<◌, ◌≤◌, ◌^◌, List, [], ◌∷◌, ◌++◌, All, length, refl, sym, subst, arith}
use Rattle.std.proofs.lemmas.List.Elements.{All-nil, All-cons, All-head, All-tail, All-append}
use Rattle.wire_records.specs.Records.{Record}
use Rattle.wire_records.specs.Commands.{Command, Pair}
use Rattle.wire_records.specs.CommandRecords.{record_of, IsCommand, HasShortRow}
use Rattle.wire_records.specs.Versions.{IsReadAs}
use Rattle.wire_records.proofs.Readings.{command_short, read_own}
use Rattle.word_driver.specs.Laws.{IsNotDenied}
use Rattle.word_driver.proofs.Denying.{not_denied, follows, one_of}
use Rattle.flow_orders.specs.Outcomes.{Outcome}
use Rattle.journal_records.specs.Pairs.{IsPair}
use Rattle.journal_records.specs.Formats.{records_of}
use Rattle.market_rules.specs.Market.{Market, IsConsistent}
use Rattle.market_rules.proofs.LawProofs.{journals_stay_consistent}
use Rattle.canonical_journals.proofs.CanonicalIsLegal.{canonical_follows_are_admissible}
use Rattle.canonical_journals.proofs.LawProofs.{steps_number_one}
use Rattle.exchange_session.specs.Serving.{AnswersOne}
use Rattle.exchange_session.proofs.RunLaws.{can_be_read, has_step}
use Rattle.order_text.specs.Lines.{IsBlank, Asked, Alone, OfLadder, commands_of, LineAsks}
use Rattle.order_text.proofs.Fitting.{commands_fit}
use Rattle.order_text.proofs.ShortRows.{rows_are_short}
use Rattle.batch_report.specs.Reports.{IsReport}
use Rattle.input_lines.specs.Long.{IsLong}
use Rattle.line_keeping.specs.Answers.{no_command_text, AsksIn, AreAnswered, IsLineAnswered, AreLinesAnswered, most_entries}
use Rattle.line_keeping.specs.Laws.{SomeAnswer}
use Rattle.line_keeping.proofs.Joining.{Pairs, Texts}
use Rattle.line_keeping.proofs.Lines.{ladder_few}
use Rattle.batch_report.proofs.SomeText.{some_text}

-- what was answered somehow: by entries that fit, which lead to a consistent market and number no more orders than these
record Found (old : Market) (most : ℕ) (Are : Pairs → Texts → Market → Type 0) : Type 0 where
  pairs : Pairs
  texts : Texts
  new : Market
  are : Are pairs texts new
  each : All IsPair pairs
  consistent : IsConsistent new
  orders : new.next_order ≤ old.next_order + most

-- ---- commands

-- nothing is asked for
none_some : (old : Market) (count : ℕ) → IsConsistent old → Found old 0 (AreAnswered old count [])
none_some old count consistent = record { pairs = []; texts = []; new = old; are = (refl, refl, refl); each = All-nil IsPair; consistent = consistent; orders = omega arith }

-- a command that is answered, and others after it
one_some : (old : Market) (count : ℕ) (command : Command) (commands : List Command) (next : Market) (text : List ℕ) → IsConsistent old → (one : AnswersOne old (record_of command) next text) → old.next_order + length (command ∷ commands) < 2 ^ 64
    → Found next (length commands) (AreAnswered next (count + 1) commands) → Found old (length (command ∷ commands)) (AreAnswered old count (command ∷ commands))
one_some old count command commands next text consistent one few rest =
    let pair : Pair Record Outcome = record { asked = record_of command; answer = one.answer } in
    let more = steps_number_one old (record_of command) one.answer next one.step in
    let fits = one.fits (omega (arith, more, few)) in
    let right = canonical_follows_are_admissible IsReadAs read_own old (pair ∷ []) next consistent (next, one.step, refl) in
    let told = some_text old right.0 (count + 1) (records_of pair) (record { answer = one.answer; encoded = record { fits = fits.answer; encoded = refl }; step = right.1 }) in
    record {
      pairs = pair ∷ rest.pairs;
      texts = told.0 ∷ rest.texts;
      new = rest.new;
      are = (pair, told.0, next, rest.pairs, rest.texts, refl, one.step, subst (λ (m : Market). IsReport m (count + 1) (records_of pair) told.0) (sym right.2) told.1, rest.are, refl, refl);
      each = All-cons IsPair pair rest.pairs fits rest.each;
      consistent = rest.consistent;
      orders = omega (arith, more, rest.orders);
    }

-- a step leads to a consistent market
still_consistent : (old : Market) (asked : Record) (next : Market) (text : List ℕ) → IsConsistent old → AnswersOne old asked next text → IsConsistent next
still_consistent old asked next text consistent one =
    let pairs : Pairs = record { asked = asked; answer = one.answer } ∷ [] in
    journals_stay_consistent old pairs next consistent (canonical_follows_are_admissible IsReadAs read_own old pairs next consistent (next, one.step, refl))

-- commands are answered in some way
commands_some : (old : Market) (count : ℕ) (commands : List Command) → IsConsistent old → All IsCommand commands → All HasShortRow commands → old.next_order + length commands < 2 ^ 64 → IsNotDenied (Found old (length commands) (AreAnswered old count commands))
commands_some old count [] consistent fit short few = not_denied (none_some old count consistent)
commands_some old count (command ∷ commands) consistent fit short few =
    follows
    (λ readable.
    let step = has_step old (record_of command) consistent (command_short command (All-head IsCommand command commands fit) (All-head HasShortRow command commands short)) readable in
    let more = steps_number_one old (record_of command) step.2.answer step.0 step.2.step in
    follows
    (λ (rest : Found step.0 (length commands) (AreAnswered step.0 (count + 1) commands)). not_denied (one_some old count command commands step.0 step.1 consistent step.2 (omega (arith, few)) rest))
    (commands_some step.0 (count + 1) commands (still_consistent old (record_of command) step.0 step.1 consistent step.2) (All-tail IsCommand command commands fit) (All-tail HasShortRow command commands short) (omega (arith, more, few))))
    (can_be_read (record_of command))

-- ---- lines

-- a line asks for at most `most_entries` commands
few_asked : (m : Market) (line : List ℕ) (asked : Asked) → LineAsks m.version m.tickers line asked → length (commands_of asked) ≤ most_entries
few_asked m line (Alone command) asks = omega arith
few_asked m line (OfLadder commands) asks = ladder_few m.version m.tickers line commands asks

module _ (old : Market) (count number : ℕ) (line : List ℕ) (consistent : IsConsistent old) (few : old.next_order + most_entries < 2 ^ 64) where
  abbrev Line : Type 0
  Line = Found old most_entries (IsLineAnswered old count number line)

  -- a line that asks for something
  asked_some : (asked : Asked) → AsksIn old line asked → IsNotDenied Line
  asked_some asked asks =
      let fit = commands_fit old.version old.tickers line asked consistent.tickers asks.1 in
      let most = few_asked old line asked asks.1 in
      follows
      (λ (so : Found old (length (commands_of asked)) (AreAnswered old count (commands_of asked))). not_denied (record { pairs = so.pairs; texts = so.texts; new = so.new; are = inr (inr (asked, asks, so.are)); each = so.each; consistent = so.consistent; orders = omega (arith, so.orders, most) }))
      (commands_some old count (commands_of asked) consistent fit.0 (rows_are_short old.version old.tickers line asked consistent.tickers asks.1) (omega (arith, few, most)))

  -- a line that is no command
  refused_some : IsLineAnswered old count number line [] (no_command_text number ∷ []) old → Line
  refused_some are = record { pairs = []; texts = no_command_text number ∷ []; new = old; are = are; each = All-nil IsPair; consistent = consistent; orders = omega arith }

  written_some : ¬ IsLong line → ¬ IsBlank line → ((asked : Asked) × LineAsks old.version old.tickers line asked) ⊎ (((asked : Asked) × LineAsks old.version old.tickers line asked) → ⊥) → IsNotDenied Line
  written_some short written (inl (asked, asks)) = asked_some asked (short, asks)
  written_some short written (inr none) = not_denied (refused_some (inr (inl (inr (record { written = written; no_command = λ asked asks. none (asked, asks) }), refl, refl, refl))))

  short_some : ¬ IsLong line → IsBlank line ⊎ (IsBlank line → ⊥) → IsNotDenied Line
  short_some short (inl blank) = not_denied (record { pairs = []; texts = []; new = old; are = inl ((short, blank), refl, refl, refl); each = All-nil IsPair; consistent = consistent; orders = omega arith })
  short_some short (inr written) = follows (written_some short written) (one_of ((asked : Asked) × LineAsks old.version old.tickers line asked))

  line_some : IsLong line ⊎ (IsLong line → ⊥) → IsNotDenied Line
  line_some (inl long) = not_denied (refused_some (inr (inl (inl long, refl, refl, refl))))
  line_some (inr short) = follows (short_some short) (one_of (IsBlank line))

-- lines are answered in some way
lines_some : (old : Market) (count number : ℕ) (lines : Texts) → IsConsistent old → old.next_order + most_entries * length lines < 2 ^ 64 → IsNotDenied (Found old (most_entries * length lines) (AreLinesAnswered old count number lines))
lines_some old count number [] consistent few =
    not_denied (record { pairs = []; texts = []; new = old; are = (refl, refl, refl); each = All-nil IsPair; consistent = consistent; orders = omega arith })
lines_some old count number (line ∷ lines) consistent few =
    follows
    (λ (one : Found old most_entries (IsLineAnswered old count number line)). follows
    (λ (rest : Found one.new (most_entries * length lines) (AreLinesAnswered one.new (count + length one.pairs) (number + 1) lines)). not_denied (record {
      pairs = one.pairs ++ rest.pairs;
      texts = one.texts ++ rest.texts;
      new = rest.new;
      are = (one.pairs, one.texts, one.new, rest.pairs, rest.texts, one.are, rest.are, refl, refl);
      each = All-append IsPair one.pairs rest.pairs one.each rest.each;
      consistent = rest.consistent;
      orders = omega (arith, one.orders, rest.orders);
    }))
    (lines_some one.new (count + length one.pairs) (number + 1) lines one.consistent (omega (arith, one.orders, few))))
    (follows (line_some old count number line consistent (omega (arith, few))) (one_of (IsLong line)))

pub some_answer : SomeAnswer
some_answer old count number lines consistent few =
    follows (λ (so : Found old (most_entries * length lines) (AreLinesAnswered old count number lines)). not_denied (so.pairs, so.texts, so.new, so.are, so.each)) (lines_some old count number lines consistent few)
