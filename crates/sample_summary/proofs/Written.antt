-- An entry with the canonical answer is valid, and is what its bytes encode.
use Rattle.std.proofs.Common.{◌≡◌, ◌≤◌, ◌^◌, ◌<◌, ℕ, List, [], ◌++◌, append-nil, drop, length, length-append, Result, Ok, Err, refl, sym, ap, subst, ◌∙◌, arith}
use Rattle.std.specs.Prelude.{OnOk, IfOk}
use Rattle.wire_records.specs.Records.{Record, encoding}
use Rattle.wire_records.specs.Commands.{Command, Answer, Pair}
use Rattle.wire_records.specs.Grammars.{BeginsWithNone}
use Rattle.wire_records.specs.Versions.{IsReadAs}
use Rattle.wire_records.specs.Formats.{commands}
use Rattle.wire_records.proofs.Encoded.{length-encoding}
use Rattle.wire_records.specs.declared.command.BodyFault.{BodyFault}
use Rattle.file_units.specs.Units.{TakesOne}
use Rattle.flow_orders.specs.Outcomes.{Outcome, IsAdmissibleOutcome}
use Rattle.canonical_rule.specs.Canonical.{IsCanonicalOutcome}
use Rattle.journal_records.specs.Replies.{EncodesAnswer}
use Rattle.journal_records.specs.Pairs.{IsPair, pair_encoding}
use Rattle.journal_records.specs.Formats.{journals, records_of}
use Rattle.journal_records.proofs.Files.{journals_readable}
use Rattle.journal_records.proofs.Encoded.{answer_unique}
use Rattle.market_rules.specs.Market.{Market, IsConsistent}
use Rattle.market_rules.specs.Step.{ServesRead}
use Rattle.market_rules.specs.Journal.{Step}
use Rattle.canonical_journals.proofs.CanonicalIsLegal.{canonical_served_is_admissible}
use Rattle.canonical_journals.proofs.LawProofs.{steps_number_one}
use Rattle.market_rules.proofs.LawProofs.{market_is_determined}
use Rattle.batch_audit.specs.Legal.{IsLegalPair}
use Rattle.exchange_session.specs.Serving.{AnswersOne, HasNumbers, Puts}
use Rattle.sample_summary.specs.Private.{IsWritten}

right_read : (old new : Market) (read : Result Command BodyFault) (answer : Answer Outcome) → IsConsistent old → ServesRead IsCanonicalOutcome old read answer new → ServesRead IsAdmissibleOutcome old read answer new
right_read old new (Ok c) answer consistent served = canonical_served_is_admissible old c answer new consistent served
right_read old new (Err why) answer consistent served = served

pub written_by : (old : Market) (asked : Record) (new : Market) (text : List ℕ) → IsConsistent old → (answers : AnswersOne old asked new text) → new.next_order < 2 ^ 64 → IsWritten old text
written_by old asked new text consistent answers next = record {
  pair = record { asked = asked; answer = answers.answer };
  new = new;
  fits = answers.fits next;
  step = record { read = answers.step.read; encoded = answers.step.encoded; served = right_read old new answers.step.read answers.answer consistent answers.step.served };
  encoded = answers.encoded;
}

-- its records are a valid entry
pub legal_of : (old : Market) (bytes : List ℕ) (w : IsWritten old bytes) → IsLegalPair old (records_of w.pair) w.new
legal_of old bytes w = record { answer = w.pair.answer; encoded = record { fits = w.fits.answer; encoded = refl }; step = w.step }

-- the second of its records encodes its answer
pub encodes_of : (old : Market) (bytes : List ℕ) (w : IsWritten old bytes) (pair : Record × Record) → pair ≡ records_of w.pair → EncodesAnswer pair.1 w.pair.answer
encodes_of old bytes w pair is = record { fits = w.fits.answer; encoded = ap (λ (p : Record × Record). p.1) is }

lawful_of : (pair : Pair Record Outcome) → IsPair pair → journals.units.IsLawful (records_of pair)
lawful_of pair fits = (fits.asked, fits.answered)

encoded_as : (pair : Pair Record Outcome) → pair_encoding pair ≡ journals.units.encode (records_of pair)
unfolding pair_encoding
encoded_as pair = refl

-- its bytes begin with its records
begins : (old : Market) (bytes : List ℕ) (w : IsWritten old bytes) → bytes ≡ journals.units.encode (records_of w.pair) ++ []
begins old bytes w = w.encoded ∙ encoded_as w.pair ∙ sym (append-nil (journals.units.encode (records_of w.pair)))

pub framed_as : (old : Market) (bytes : List ℕ) (w : IsWritten old bytes) (pair : Record × Record) (rest : List ℕ) → journals.units.IsLawful pair → bytes ≡ journals.units.encode pair ++ rest → pair ≡ records_of w.pair
framed_as old bytes w pair rest lawful prefix = (journals_readable.units.one pair (records_of w.pair) rest [] lawful (lawful_of w.pair w.fits) (sym prefix ∙ begins old bytes w)).0

pub not_none : (old : Market) (bytes : List ℕ) (w : IsWritten old bytes) → bytes ≡ [] → ⊥
not_none old bytes w none =
    omega (arith, journals_readable.units.some (records_of w.pair) (lawful_of w.pair w.fits), ap length (w.encoded ∙ encoded_as w.pair), ap length none)

pub not_broken : (old : Market) (bytes : List ℕ) (w : IsWritten old bytes) → BeginsWithNone journals.units bytes → ⊥
not_broken old bytes w none = none (records_of w.pair) [] (lawful_of w.pair w.fits) (begins old bytes w)

-- an audit of the entry makes its market
pub made_of : (old : Market) (bytes : List ℕ) (w : IsWritten old bytes) (pair : Record × Record) (new : Market) → pair ≡ records_of w.pair → IsLegalPair old pair new → new ≡ w.new
made_of old bytes w pair new is legal =
    let here = subst (λ (p : Record × Record). IsLegalPair old p new) is legal in
    let answer = answer_unique here.answer w.pair.answer here.encoded.fits w.fits.answer (sym here.encoded.encoded) in
    market_is_determined old w.pair.asked w.pair.answer new w.new (subst (λ (a : Answer Outcome). Step IsReadAs IsAdmissibleOutcome old w.pair.asked a new) answer here.step) w.step

-- The first record of the bytes was served by a session at the audit's market: it takes five bytes at least, and its entry is written.
pub record ServedHere (audit new : Market) (bytes text : List ℕ) (taken : ℕ) (answer : Answer Outcome) : Type 0 where
  pub within : taken ≤ length bytes
  pub some : 5 ≤ taken
  pub next : new.next_order < 2 ^ 64
  pub written : IsWritten audit text
  pub same : written.new ≡ new
  pub answered : written.pair.answer ≡ answer

pub served_here : (audit session new : Market) (bytes text items : List ℕ) (taken left : ℕ) → (one : TakesOne commands Puts taken bytes session new [] text) → audit ≡ session → items ≡ text → IsConsistent audit → HasNumbers session left → length bytes ≤ left
    → ServedHere audit new bytes items taken one.step.answer
unfolding written_by
served_here audit session new bytes text items taken left one same is consistent ready inside =
    let within : taken ≤ length bytes = omega (arith, one.size, ap length one.prefix, length-append (encoding one.unit) (drop taken bytes)) in
    let some : 5 ≤ taken = omega (arith, one.size, length-encoding one.unit) in
    let next : new.next_order < 2 ^ 64 = omega (arith, ready, inside, within, some, steps_number_one session one.unit one.step.answer new one.step.step) in
    subst (λ (m : Market). ServedHere m new bytes items taken one.step.answer) (sym same)
    (subst (λ (xs : List ℕ). ServedHere session new bytes xs taken one.step.answer) (sym is)
    (record {
      within = within;
      some = some;
      next = next;
      written = written_by session one.unit new text (subst IsConsistent same consistent) one.step next;
      same = refl;
      answered = refl;
    }))

-- P implies Q, so if P holds on success, Q does
pub on_ok : {A E : Type 0} (r : Result A E) (P Q : Type 0) → OnOk r P → (P → Q) → OnOk r Q
on_ok (Ok a) P Q p f = f p
on_ok (Err e) P Q p f = tt

pub if_ok : {A E : Type 0} (r : Result A E) (P Q : A → Type 0) → IfOk r P → ((a : A) → P a → Q a) → IfOk r Q
if_ok (Ok a) P Q p f = f a p
if_ok (Err e) P Q p f = tt
