-- A run has one end and one text, the journal of its records, and has an end for all bytes.
use Rattle.std.proofs.Common.{◌≡◌, ℕ, List, [], ◌∷◌, ◌++◌, map, All, Result, Ok, Err, inl, inr, refl, sym, ap, subst, ◌∙◌, arith}
use Rattle.std.specs.List.{flat_map}
use Rattle.std.proofs.lemmas.List.Elements.{All-nil, All-cons, All-head, All-tail}
use Rattle.wire_records.specs.Records.{Record, IsRecord}
use Rattle.wire_records.specs.Commands.{Command, Answer, Pair}
use Rattle.wire_records.specs.Versions.{IsReadAs}
use Rattle.wire_records.specs.declared.command.BodyFault.{BodyFault}
use Rattle.wire_records.specs.declared.command.BodyFault.TheVariants.{UnknownTag, BadBody}
use Rattle.wire_records.specs.declared.version.Version.{Version}
use Rattle.wire_records.specs.declared.version.Version.TheVariants.{One, Two, Three, Four}
use Rattle.wire_records.specs.Formats.{StatesOver, commands}
use Rattle.wire_records.proofs.Prefixes.{states_none-from_few, no_prefix-from_overlong}
use Rattle.wire_records.proofs.Readings.{reading_unique}
use Rattle.wire_records.proofs.RecordCode.{commands_readable}
use Rattle.file_units.specs.Inputs.{HasLongest}
use Rattle.file_units.proofs.Longest.{record_or_over, over_stays}
use Rattle.flow_orders.specs.Outcomes.{Outcome}
use Rattle.canonical_rule.specs.Canonical.{IsCanonicalOutcome}
use Rattle.journal_records.specs.Pairs.{pair_encoding}
use Rattle.journal_records.specs.Formats.{journal_magic_of}
use Rattle.market_rules.specs.Market.{Market, IsConsistent, empty_market}
use Rattle.market_rules.specs.Journal.{IsAnswered}
use Rattle.canonical_journals.proofs.OneCanonicalJournal.{own_step}
use Rattle.canonical_journals.proofs.CanonicalServed.{step_is_there}
use Rattle.market_rules.proofs.LawProofs.{steps_keep_consistency, journals_stay_consistent}
use Rattle.canonical_journals.proofs.LawProofs.{canonical_journals_are_legal}
use Rattle.market_rules.proofs.Versions.{follows_version}
use Rattle.word_driver.specs.Word.{Goes}
use Rattle.word_driver.specs.Laws.{IsExact, IsKept, IsNotDenied, HasNext}
use Rattle.word_driver.proofs.Denying.{not_denied, follows}
use Rattle.exchange_session.specs.Serving.{AnswersOne}
use Rattle.exchange_session.specs.Journals.{Journals}
use Rattle.exchange_session.specs.Running.{run}
use Rattle.wire_records.proofs.RecordCode.{eight}
use Rattle.exchange_session.proofs.AnswersFit.{pair_fits, pairs_fit}

-- no bytes state a length
short : StatesOver 1024 [] → ⊥
short over = states_none-from_few over.0 [] (omega arith) over.1

-- one record has one answer by the canonical rule, and makes one market
one_answer : (s : Market) (u : Record) (t r : Market) (x y : List ℕ) → AnswersOne s u t x → AnswersOne s u r y → (t ≡ r) × (x ≡ y)
one_answer s u t r x y a b =
    let one = own_step IsReadAs reading_unique s u a.answer b.answer t r a.step b.step in
    let pair : Answer Outcome → Pair Record Outcome = λ answer. record { asked = u; answer = answer } in
    (one.1, a.encoded ∙ ap (λ answer. pair_encoding (pair answer)) one.0 ∙ sym b.encoded)

-- the longest record
longest : HasLongest commands 1029
longest = record {
  seen = λ bytes are long none. elim (record_or_over 1024 bytes are long) [ inl over ↦ over | inr (first, rest, begins, following) ↦ absurd (none first rest begins.0 begins.1) ];
  stays = over_stays 1024;
  none = λ bytes over. no_prefix-from_overlong 1024 over.0 bytes (omega arith) over.1 over.2;
}

pub run_is_exact : IsExact run
run_is_exact = record {
  readable = commands_readable;
  short = short;
  magic = eight;
  longest = longest;
  some = omega arith;
  few = omega arith;
  one_step = one_answer;
  one_stop = λ s at b c x y stops other. absurd stops;
  one_close = λ s x y a b. a ∙ sym b;
  steps_or_stops = λ s u t b x y step stops. stops;
  closes_or_stops = λ s b x y closes stops. stops;
}

-- the entries that answer records
pub record Answers (start : Market) (records : List Record) (market : Market) (text : List ℕ) : Type 0 where
  pub pairs : List (Pair Record Outcome)
  pub answered : IsAnswered IsReadAs IsCanonicalOutcome start records pairs market
  pub encoded : text ≡ flat_map pair_encoding pairs

answers : (start market : Market) (records : List Record) (text : List ℕ) → Goes run start records market text → Answers start records market text
answers start market [] text goes = record { pairs = []; answered = record { asked = refl; steps = goes.0 }; encoded = goes.1 }
answers start market (r ∷ records) text goes =
    let one = goes.3 in
    let rest = answers goes.0 market records goes.2 goes.4 in
    let pair : Pair Record Outcome = record { asked = r; answer = one.answer } in
    record {
      pairs = pair ∷ rest.pairs;
      answered = record { asked = ap (λ xs. r ∷ xs) rest.answered.asked; steps = (goes.0, one.step, rest.answered.steps) };
      encoded = goes.5 ∙ ap (λ xs. xs ++ goes.2) one.encoded ∙ ap (λ xs. pair_encoding pair ++ xs) rest.encoded;
    }

-- a run from a market on is of the market's version
pub run_version : (start market : Market) (records : List Record) (text : List ℕ) → Goes run start records market text → market.version ≡ start.version
run_version start market records text goes =
    let so = answers start market records text goes in
    follows_version IsCanonicalOutcome IsReadAs start so.pairs market so.answered.steps

-- a run from an empty market leads to a consistent one
run_is_consistent : (version : Version) (records : List Record) (market : Market) (text : List ℕ) → Goes run (empty_market version) records market text → IsConsistent market
run_is_consistent version records market text goes =
    let so = answers (empty_market version) market records text goes in
    (journals_stay_consistent (empty_market version) so.pairs market (steps_keep_consistency.0 version) (canonical_journals_are_legal version records so.pairs market so.answered).steps)

-- the records of entries are as short as those that they answer
each_short : (pairs : List (Pair Record Outcome)) → All (IsRecord 1024) (map (λ (p : Pair Record Outcome). p.asked) pairs) → All (λ (p : Pair Record Outcome). IsRecord 1024 p.asked) pairs
each_short [] each = All-nil (λ (p : Pair Record Outcome). IsRecord 1024 p.asked)
each_short (pair ∷ pairs) each =
    let asked : Pair Record Outcome → Record = λ p. p.asked in
    All-cons (λ (p : Pair Record Outcome). IsRecord 1024 p.asked) pair pairs (All-head (IsRecord 1024) pair.asked (map asked pairs) each) (each_short pairs (All-tail (IsRecord 1024) pair.asked (map asked pairs) each))

pub run_is_kept : IsKept run empty_market
run_is_kept version records market text each goes =
    let start = empty_market version in
    let so = answers start market records text goes in
    let consistent = steps_keep_consistency.0 version in
    subst (λ (v : Version). Journals v records market (journal_magic_of v ++ text)) (sym (run_version start market records text goes)) (record {
      pairs = so.pairs;
      journal_of = so.answered;
      fits = (pairs_fit start so.pairs market consistent (each_short so.pairs (rw so.answered.asked each)) so.answered.steps).1;
      encoded = ap (λ xs. journal_magic_of version ++ xs) so.encoded;
    })

-- ---- a run has a next step

-- what a record is read as in each version
abbrev pub CanBeRead : Record → Type 0
CanBeRead asked = (version : Version) → (read : Result Command BodyFault) × IsReadAs version asked read

-- a record can be read in each version: it encodes a command, or its tag is none, or its body is bad
read_in : (version : Version) (asked : Record) → IsNotDenied ((read : Result Command BodyFault) × IsReadAs version asked read)
read_in version asked none = none (Err UnknownTag, λ tag. none (Err BadBody, (tag, λ command encodes. none (Ok command, (tag, encodes)))))

-- what holds of all versions holds of each
of_all : (P : Version → Type 0) → P One → P Two → P Three → P Four → (version : Version) → P version
of_all P one two three four One = one
of_all P one two three four Two = two
of_all P one two three four Three = three
of_all P one two three four Four = four

pub can_be_read : (asked : Record) → IsNotDenied (CanBeRead asked)
can_be_read asked none =
    read_in One asked (λ one. read_in Two asked (λ two. read_in Three asked (λ three. read_in Four asked (λ four.
    none (of_all (λ version. (read : Result Command BodyFault) × IsReadAs version asked read) one two three four)))))

-- each record that is short enough has a step, from any consistent market
pub has_step : (s : Market) (asked : Record) → IsConsistent s → IsRecord 1024 asked → CanBeRead asked → (t : Market) × (text : List ℕ) × AnswersOne s asked t text
has_step s asked consistent short readable =
    let there = step_is_there IsReadAs CanBeRead (λ version r some. some version) s asked readable in
    (there.1, pair_encoding (record { asked = asked; answer = there.0 }), record { answer = there.0; step = there.2; fits = pair_fits s asked there.0 there.1 consistent short there.2; encoded = refl })

pub run_has_next : HasNext run empty_market
run_has_next = record {
  some_step = λ version records s x asked goes lawful. follows (λ readable. not_denied (inl (has_step s asked (run_is_consistent version records s x goes) lawful readable))) (can_be_read asked);
  some_close = λ version records s x goes. not_denied (inl ([], refl));
}
