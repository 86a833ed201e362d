-- A command that is served: its entry, and the step that it is.
use Rattle.std.proofs.Common.{◌≡◌, ℕ, ◌+◌, ◌<◌, ◌^◌, Result, Ok, Err, OnOk, List, [], ◌∷◌, ◌++◌, refl, sym, ap, subst, ◌∙◌, arith}
use Rattle.wire_records.specs.Records.{Record, encoding}
use Rattle.wire_records.specs.Commands.{Command, Answer, Pair}
use Rattle.wire_records.specs.CommandRecords.{record_of}
use Rattle.wire_records.specs.Versions.{IsReadAs}
use Rattle.wire_records.proofs.Readings.{read_own}
use Rattle.flow_orders.specs.Outcomes.{Outcome, IsAdmissibleOutcome}
use Rattle.canonical_journals.proofs.CanonicalIsLegal.{canonical_follows_are_admissible}
use Rattle.canonical_journals.proofs.LawProofs.{steps_number_one}
use Rattle.journal_records.specs.Replies.{answer_record}
use Rattle.journal_records.specs.Pairs.{IsPair, pair_encoding}
use Rattle.market_rules.specs.Market.{Market, IsConsistent}
use Rattle.market_rules.specs.Journal.{Step}
use Rattle.batch_report.specs.Reports.{IsReport}
use Rattle.exchange_session.specs.Serving.{AnswersOne}

-- the entry that a record gets
abbrev pub pair_of : (old : Market) (asked : Record) (new : Market) (text : List ℕ) → AnswersOne old asked new text → Pair Record Outcome
pair_of old asked new text answers = record { asked = asked; answer = answers.answer }

-- it fits its widths, while the numbers of orders have 64 bits
pub pair_fits : (old : Market) (asked : Record) (new : Market) (text : List ℕ) (answers : AnswersOne old asked new text) → old.next_order + 1 < 2 ^ 64 → IsPair (pair_of old asked new text answers)
pair_fits old asked new text answers few = answers.fits (omega (arith, few, steps_number_one old asked answers.answer new answers.step))

-- its bytes begin with the record
pub record_first : (old : Market) (asked : Record) (new : Market) (text bytes : List ℕ) → AnswersOne old asked new text → bytes ≡ text → (rest : List ℕ) × (bytes ≡ encoding asked ++ rest)
unfolding pair_encoding
record_first old asked new text bytes answers is = (encoding (answer_record answers.answer), is ∙ answers.encoded)

-- it is a step by the rule of admissible outcomes too
pub is_right : (old : Market) (asked : Record) (new : Market) (text : List ℕ) (answers : AnswersOne old asked new text) → IsConsistent old → Step IsReadAs IsAdmissibleOutcome old asked answers.answer new
is_right old asked new text answers consistent =
    let right = canonical_follows_are_admissible IsReadAs read_own old (pair_of old asked new text answers ∷ []) new consistent (new, answers.step, refl) in
    subst (λ (m : Market). Step IsReadAs IsAdmissibleOutcome old asked answers.answer m) (sym right.2) right.1

pub on_ok : {T E : Type 0} (result : Result T E) (P Q : Type 0) → (P → Q) → OnOk result P → OnOk result Q
on_ok (Ok value) P Q f p = f p
on_ok (Err fault) P Q f p = tt

-- the text of a command and its answer is that of the entry
pub told_as : (market seen_market : Market) (number : ℕ) (command seen_command : Command) (answer seen_answer : Answer Outcome) (before after : List ℕ) → seen_market ≡ market → seen_command ≡ command → seen_answer ≡ answer → before ≡ []
    → (text : List ℕ) × IsReport seen_market number (record_of seen_command, answer_record seen_answer) text × (after ≡ before ++ text) → IsReport market number (record_of command, answer_record answer) after
told_as market seen_market number command seen_command answer seen_answer before after same_market same_command same_answer empty (text, report, is) =
    subst (λ (l : List ℕ). IsReport market number (record_of command, answer_record answer) l) (sym (is ∙ ap (λ (l : List ℕ). l ++ text) empty))
    (subst (λ (a : Answer Outcome). IsReport market number (record_of command, answer_record a) text) same_answer
    (subst (λ (d : Command). IsReport market number (record_of d, answer_record seen_answer) text) same_command
    (subst (λ (m : Market). IsReport m number (record_of seen_command, answer_record seen_answer) text) same_market report)))
