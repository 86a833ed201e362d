-- Audits and reports do what the clauses of the program say: they result in histories and texts of valid entries.
use Rattle.std.proofs.Common.{◌≡◌, ◌<◌, ◌+◌, ℕ, List, [], ◌∷◌, ◌++◌, All, map, Ok, Err, length, take, refl, sym, ap, ◌∙◌, subst, inl, inr, append-nil, arith}
use Rattle.std.proofs.lemmas.List.Sums.{sum_by-cons}
use Rattle.std.proofs.lemmas.List.Elements.{All-nil, All-cons, All-head, All-tail}
use Rattle.wire_records.specs.Records.{Record}
use Rattle.wire_records.specs.Commands.{Answer, Pair}
use Rattle.wire_records.specs.Versions.{IsReadAs}
use Rattle.wire_records.specs.Grammars.{BeginsWith, encode_all}
use Rattle.wire_records.specs.Reading.{End}
use Rattle.wire_records.specs.Reading as reading
use Rattle.flow_orders.specs.Outcomes.{Outcome, IsAdmissibleOutcome}
use Rattle.journal_records.specs.Pairs.{IsPair}
use Rattle.journal_records.specs.Formats.{journals, records_of}
use Rattle.journal_records.proofs.Encoded.{answer_unique}
use Rattle.market_rules.specs.Market.{Market}
use Rattle.market_rules.specs.Journal.{Follows}
use Rattle.market_history.specs.Histories.{Start, market_of, starts}
use Rattle.batch_report.specs.Reports.{IsReport}
use Rattle.journal_replay.specs.Audits.{cleared_by, skipped_by, cleared_in, skipped_in}
use Rattle.word_driver.specs.declared.fault.Fault.TheVariants as word
use Rattle.word_driver.specs.Ended.{Ended}
use Rattle.word_driver.specs.Word.{Goes, Halts, ComesOn, LacksOn}
use Rattle.journal_words.specs.Watching.{Watched}
use Rattle.journal_words.specs.Line.{counted_line}
use Rattle.journal_words.specs.Words.{Counts, audit, report}
use Rattle.journal_words.proofs.JournalLaws.{audit_is_exact, report_is_exact}
use Rattle.history_words.specs.declared.stop.HistoryStop.{HistoryStop}
use Rattle.history_words.specs.declared.stop.HistoryStop.TheVariants as stop
use Rattle.history_words.specs.Histories.{following, plainly, over_history}
use Rattle.flow_exchange.specs.declared.form.Form.TheVariants.{Audit, Report}
use Rattle.exit_status.specs.declared.status.Status.TheVariants as answer
use Rattle.flow_exchange.specs.Statuses.{ended_status}
use Rattle.flow_exchange.specs.Private.{rejected}
use Rattle.flow_exchange.specs.HistoryFiles.{History}
use Rattle.flow_exchange.specs.Auditing.{legal_line, audit_text, AuditsTo, AuditsShort}
use Rattle.flow_exchange.specs.Reporting.{AreReported, ReportsTo, ReportsShort}
use Rattle.flow_exchange.specs.JournalFiles.{audit_status}
use Rattle.flow_exchange.proofs.HistoryOf.{history_of, makes_of, judged_all, judged_some, at_pair}
use Rattle.exit_status.proofs.Own.{IsOwn}
use Rattle.flow_exchange.proofs.Words.{Nothing, IsForm, history_form}

cleared_more : (pair : Pair Record Outcome) (pairs : List (Pair Record Outcome)) → cleared_in (pair ∷ pairs) ≡ cleared_by pair.answer + cleared_in pairs
cleared_more pair pairs = sum_by-cons (λ (p : Pair Record Outcome). cleared_by p.answer) pair pairs

skipped_more : (pair : Pair Record Outcome) (pairs : List (Pair Record Outcome)) → skipped_in (pair ∷ pairs) ≡ skipped_by pair.answer + skipped_in pairs
skipped_more pair pairs = sum_by-cons (λ (p : Pair Record Outcome). skipped_by p.answer) pair pairs

-- ---- what the units result in

-- What an audit has counted of valid entries.
pub record AreCounted (start new : Watched Counts) (units : List (Record × Record)) (text : List ℕ) : Type 0 where
  pub legal : List (Pair Record Outcome)
  pub parts : units ≡ map records_of legal
  pub each : All IsPair legal
  pub steps : Follows IsReadAs IsAdmissibleOutcome start.market legal new.market
  pub pairs : new.pairs ≡ start.pairs + length legal
  pub cleared : new.seen.cleared ≡ start.seen.cleared + cleared_in legal
  pub skipped : new.seen.skipped ≡ start.seen.skipped + skipped_in legal
  pub nothing : text ≡ []

pub are_counted : (start new : Watched Counts) (units : List (Record × Record)) (text : List ℕ) → All journals.units.IsLawful units → Goes audit start units new text → AreCounted start new units text
are_counted start new [] text each goes = record {
  legal = [];
  parts = refl;
  each = All-nil IsPair;
  steps = ap (λ (s : Watched Counts). s.market) goes.0;
  pairs = rw goes.0 (omega arith);
  cleared = rw goes.0 (omega arith);
  skipped = rw goes.0 (omega arith);
  nothing = goes.1;
}
are_counted start new (unit ∷ units) text each goes =
    let one = goes.3 in
    let lawful = All-head journals.units.IsLawful unit units each in
    let rest = are_counted goes.0 new units goes.2 (All-tail journals.units.IsLawful unit units each) goes.4 in
    let pair : Pair Record Outcome = record { asked = unit.0; answer = one.legal.answer } in
    let count = one.sees.0 in
    let same = answer_unique count.answer one.legal.answer count.encoded.fits one.legal.encoded.fits (sym count.encoded.encoded ∙ one.legal.encoded.encoded) in
    let cleared : goes.0.seen.cleared ≡ start.seen.cleared + cleared_by one.legal.answer = count.cleared ∙ ap (λ (a : Answer Outcome). start.seen.cleared + cleared_by a) same in
    let skipped : goes.0.seen.skipped ≡ start.seen.skipped + skipped_by one.legal.answer = count.skipped ∙ ap (λ (a : Answer Outcome). start.seen.skipped + skipped_by a) same in
    record {
      legal = pair ∷ rest.legal;
      parts = ap (λ xs. unit ∷ xs) rest.parts ∙ ap (λ (r : Record). (unit.0, r) ∷ map records_of rest.legal) one.legal.encoded.encoded;
      each = All-cons IsPair pair rest.legal (record { asked = lawful.0; answer = one.legal.encoded.fits; answered = rw (← one.legal.encoded.encoded) lawful.1 }) rest.each;
      steps = (goes.0.market, one.legal.step, rest.steps);
      pairs = omega (arith, rest.pairs, one.counted);
      cleared = omega (arith, rest.cleared, cleared, cleared_more pair rest.legal);
      skipped = omega (arith, rest.skipped, skipped, skipped_more pair rest.legal);
      nothing = goes.5 ∙ ap (λ xs. xs ++ goes.2) one.sees.1 ∙ rest.nothing;
    }

-- What a report has written of valid entries.
record AreTold (start new : Watched (Unit {0})) (units : List (Record × Record)) (text : List ℕ) : Type 0 where
  legal : List (Pair Record Outcome)
  parts : units ≡ map records_of legal
  each : All IsPair legal
  steps : Follows IsReadAs IsAdmissibleOutcome start.market legal new.market
  pairs : new.pairs ≡ start.pairs + length legal
  told : AreReported start.market (start.pairs + 1) legal new.market text

are_told : (start new : Watched (Unit {0})) (units : List (Record × Record)) (text : List ℕ) → All journals.units.IsLawful units → Goes report start units new text → AreTold start new units text
are_told start new [] text each goes = record {
  legal = [];
  parts = refl;
  each = All-nil IsPair;
  steps = ap (λ (s : Watched (Unit {0})). s.market) goes.0;
  pairs = rw goes.0 (omega arith);
  told = (ap (λ (s : Watched (Unit {0})). s.market) goes.0, goes.1);
}
are_told start new (unit ∷ units) text each goes =
    let one = goes.3 in
    let lawful = All-head journals.units.IsLawful unit units each in
    let rest = are_told goes.0 new units goes.2 (All-tail journals.units.IsLawful unit units each) goes.4 in
    let pair : Pair Record Outcome = record { asked = unit.0; answer = one.legal.answer } in
    let same : unit ≡ records_of pair = ap (λ (r : Record). (unit.0, r)) one.legal.encoded.encoded in
    record {
      legal = pair ∷ rest.legal;
      parts = ap (λ xs. unit ∷ xs) rest.parts ∙ ap (λ (u : Record × Record). u ∷ map records_of rest.legal) same;
      each = All-cons IsPair pair rest.legal (record { asked = lawful.0; answer = one.legal.encoded.fits; answered = rw (← one.legal.encoded.encoded) lawful.1 }) rest.each;
      steps = (goes.0.market, one.legal.step, rest.steps);
      pairs = omega (arith, rest.pairs, one.counted);
      told = (
        goes.0.market,
        goes.1,
        goes.2,
        one.legal.step,
        subst (λ (u : Record × Record). IsReport goes.0.market (start.pairs + 1) u goes.1) same one.sees,
        subst (λ (n : ℕ). AreReported goes.0.market n rest.legal new.market goes.2) (ap (λ n. n + 1) one.counted) rest.told,
        goes.5,
      );
    }

-- why a subcommand over a history stops is a status of its own
pub stops_own : (why : HistoryStop ℕ) → IsOwn (rejected why)
stops_own (stop.AtPairs number) = tt
stops_own stop.NoCheckpoint = tt

-- the text, if nothing was written before the last
pub last_alone : (text so_far last : List ℕ) → text ≡ so_far ++ last → so_far ≡ [] → text ≡ last
last_alone text so_far last parts none = parts ∙ ap (λ xs. xs ++ last) none

-- ---- audit

abbrev pub audit_from : Market → Watched Counts
audit_from market = record { market = market; pairs = 0; seen = record { cleared = 0; skipped = 0 } }

-- the line on what was counted is that on the valid entries
pub line_is : (pairs cleared skipped : ℕ) (legal : List (Pair Record Outcome)) → pairs ≡ length legal → cleared ≡ cleared_in legal → skipped ≡ skipped_in legal → counted_line pairs cleared skipped ≡ legal_line legal
line_is pairs cleared skipped legal a b c = rw (a, b, c) refl

module _ (limit : ℕ) (bytes text : List ℕ) (start : Start) (body : List ℕ) (begins : BeginsWith starts (take limit bytes) start body) where
  abbrev More : Type 0
  More = limit < length bytes

  abbrev first : ℕ
  first = length (starts.encode start)

  audit_stopped : (number : ℕ) → (way : ComesOn audit More first body (audit_from (market_of start)) (Err (word.Stopped number)) text)
      → Halts audit More (first + length (encode_all journals.units way.units)) way.rest way.state (Err (word.Stopped number)) way.last → AuditsTo limit bytes (answer.Rejected number) text
  audit_stopped number way (inl (bad, more, prefix, stops)) =
      let are = are_counted (audit_from (market_of start)) way.state way.units way.so_far way.passes.each way.passes.goes in
      let on = judged_some limit bytes body start begins way.units way.rest way.passes.whole way.passes.each are.legal are.parts are.each way.state.market are.steps bad more prefix stops.0 in
      let none : text ≡ [] = last_alone text way.so_far way.last way.writes are.nothing ∙ stops.1.1 in
      let named : answer.Rejected number ≡ audit_status limit on.1 are.legal (bad ∷ on.0) = ap (λ (k : ℕ). answer.Rejected k) (omega (arith, stops.1.0, are.pairs)) in
      makes_of (λ history text. text ≡ audit_text history) limit bytes (answer.Rejected number) text (history_of start are.legal way.state.market (bad ∷ on.0) on.1) on.2 named none
  audit_stopped number way (inr at) = absurd at.1

  audit_on : (inner : Ended ℕ) → ComesOn audit More first body (audit_from (market_of start)) inner text → AuditsTo limit bytes (ended_status limit rejected (following inner)) text
  audit_on (Ok done) way =
      let are = are_counted (audit_from (market_of start)) way.state way.units way.so_far way.passes.each way.passes.goes in
      let is = judged_all limit bytes body start begins way.units way.rest way.passes.whole way.passes.each are.legal are.parts are.each way.state.market are.steps End way.halts.0.0 way.halts.0.1 in
      let line : text ≡ legal_line are.legal = last_alone text way.so_far way.last way.writes are.nothing ∙ way.halts.1 ∙ line_is way.state.pairs way.state.seen.cleared way.state.seen.skipped are.legal (omega (arith, are.pairs)) (omega (arith, are.cleared)) (omega (arith, are.skipped)) in
      makes_of (λ history text. text ≡ audit_text history) limit bytes answer.Done text (history_of start are.legal way.state.market [] End) is refl line
  audit_on (Err (word.Torn n)) way =
      let are = are_counted (audit_from (market_of start)) way.state way.units way.so_far way.passes.each way.passes.goes in
      let is = judged_all limit bytes body start begins way.units way.rest way.passes.whole way.passes.each are.legal are.parts are.each way.state.market are.steps (reading.Torn n) way.halts.0.0 way.halts.0.1 in
      let none : text ≡ [] = last_alone text way.so_far way.last way.writes are.nothing ∙ way.halts.1 in
      makes_of (λ history text. text ≡ audit_text history) limit bytes (answer.Torn n) text (history_of start are.legal way.state.market [] (reading.Torn n)) is refl none
  audit_on (Err word.TooLong) way =
      let are = are_counted (audit_from (market_of start)) way.state way.units way.so_far way.passes.each way.passes.goes in
      let is = judged_all limit bytes body start begins way.units way.rest way.passes.whole way.passes.each are.legal are.parts are.each way.state.market are.steps reading.TooLong way.halts.0.0 way.halts.0.1 in
      let none : text ≡ [] = last_alone text way.so_far way.last way.writes are.nothing ∙ way.halts.1 in
      makes_of (λ history text. text ≡ audit_text history) limit bytes (answer.TooLong limit) text (history_of start are.legal way.state.market [] reading.TooLong) is refl none
  audit_on (Err (word.Stopped number)) way = audit_stopped number way way.halts
  audit_on (Err word.NotFlow) way = absurd way.halts
  audit_on (Err word.Read) way = absurd way.halts
  audit_on (Err word.Write) way = absurd way.halts
  audit_on (Err word.Memory) way = absurd way.halts

audit_to : (limit : ℕ) (bytes : List ℕ) (ended : Ended (HistoryStop ℕ)) (text : List ℕ) → (over_history audit audit_from).Comes limit bytes ended text → AuditsTo limit bytes (ended_status limit rejected ended) text
audit_to limit bytes ended text (inl other) = rw other.1 (inl (inl (other.0, refl), other.2))
audit_to limit bytes ended text (inr (inl unsound)) = rw unsound.1 (inl (inr (unsound.0, refl), unsound.2))
audit_to limit bytes ended text (inr (inr (start, body, rest, begins, parts, inner, way, is))) = rw parts (rw is (audit_on limit bytes rest start body begins inner way))

audit_lacks : (limit : ℕ) (bytes : List ℕ) (text : List ℕ) (start : Start) (body : List ℕ) → BeginsWith starts (take limit bytes) start body → LacksOn audit (limit < length bytes) (length (starts.encode start)) body (audit_from (market_of start)) text → AuditsShort limit bytes text
audit_lacks limit bytes text start body begins way =
    let are = are_counted (audit_from (market_of start)) way.state way.units text way.passes.each way.passes.goes in
    elim way.allocates [
      | inl (next, more, prefix, allocates) ↦
          let at = at_pair limit bytes body start begins way.units way.rest way.passes.whole way.passes.each are.legal are.parts are.each way.state.market are.steps next more prefix in
          elim allocates [
            | inl want ↦ inr (start, are.legal, way.state.market, next, at, want, are.nothing)
            | inr other ↦ elim other [ inl seen ↦ absurd seen.2 | inr not_legal ↦ absurd not_legal.1 ]
          ]
      | inr end ↦ absurd end.1
    ]

audit_out : (limit : ℕ) (bytes : List ℕ) (text : List ℕ) → (over_history audit audit_from).Lacks limit bytes text → AuditsShort limit bytes text
audit_out limit bytes text (inl lacks) = inl lacks
audit_out limit bytes text (inr (inl opening)) = absurd opening.3
audit_out limit bytes text (inr (inr (start, body, rest, begins, parts, way))) = rw parts (audit_lacks limit bytes rest start body begins way)

pub audit_form : IsForm (over_history audit audit_from) Audit rejected Nothing
audit_form = history_form audit (plainly audit_from) audit_is_exact Audit rejected audit_to (λ limit bytes n text more. more) audit_out stops_own (λ limit. refl) (λ bytes. refl)

-- ---- report

abbrev pub report_from : Market → Watched (Unit {0})
report_from market = record { market = market; pairs = 0; seen = tt }

abbrev reported : History → List ℕ → Type 0
reported history text = AreReported (market_of history.start) 1 history.legal history.market text

-- the text of the entries, if nothing is written after them
told_as : (start : Market) (legal : List (Pair Record Outcome)) (market : Market) (text so_far last : List ℕ) → text ≡ so_far ++ last → last ≡ [] → AreReported start 1 legal market so_far → AreReported start 1 legal market text
told_as start legal market text so_far last parts none told =
    subst (λ (x : List ℕ). AreReported start 1 legal market x) (sym (parts ∙ ap (λ xs. so_far ++ xs) none ∙ append-nil so_far)) told

module _ (limit : ℕ) (bytes text : List ℕ) (start : Start) (body : List ℕ) (begins : BeginsWith starts (take limit bytes) start body) where
  abbrev Longer : Type 0
  Longer = limit < length bytes

  abbrev size : ℕ
  size = length (starts.encode start)

  report_stopped : (number : ℕ) → (way : ComesOn report Longer size body (report_from (market_of start)) (Err (word.Stopped number)) text)
      → Halts report Longer (size + length (encode_all journals.units way.units)) way.rest way.state (Err (word.Stopped number)) way.last → ReportsTo limit bytes (answer.Rejected number) text
  report_stopped number way (inl (bad, more, prefix, stops)) =
      let are = are_told (report_from (market_of start)) way.state way.units way.so_far way.passes.each way.passes.goes in
      let on = judged_some limit bytes body start begins way.units way.rest way.passes.whole way.passes.each are.legal are.parts are.each way.state.market are.steps bad more prefix stops.0 in
      makes_of reported limit bytes (answer.Rejected number) text (history_of start are.legal way.state.market (bad ∷ on.0) on.1) on.2
      (ap (λ (k : ℕ). answer.Rejected k) (omega (arith, stops.1.0, are.pairs))) (told_as (market_of start) are.legal way.state.market text way.so_far way.last way.writes stops.1.1 are.told)
  report_stopped number way (inr at) = absurd at.1

  report_on : (inner : Ended ℕ) → ComesOn report Longer size body (report_from (market_of start)) inner text → ReportsTo limit bytes (ended_status limit rejected (following inner)) text
  report_on (Ok done) way =
      let are = are_told (report_from (market_of start)) way.state way.units way.so_far way.passes.each way.passes.goes in
      makes_of reported limit bytes answer.Done text (history_of start are.legal way.state.market [] End)
      (judged_all limit bytes body start begins way.units way.rest way.passes.whole way.passes.each are.legal are.parts are.each way.state.market are.steps End way.halts.0.0 way.halts.0.1)
      refl (told_as (market_of start) are.legal way.state.market text way.so_far way.last way.writes way.halts.1 are.told)
  report_on (Err (word.Torn n)) way =
      let are = are_told (report_from (market_of start)) way.state way.units way.so_far way.passes.each way.passes.goes in
      makes_of reported limit bytes (answer.Torn n) text (history_of start are.legal way.state.market [] (reading.Torn n))
      (judged_all limit bytes body start begins way.units way.rest way.passes.whole way.passes.each are.legal are.parts are.each way.state.market are.steps (reading.Torn n) way.halts.0.0 way.halts.0.1)
      refl (told_as (market_of start) are.legal way.state.market text way.so_far way.last way.writes way.halts.1 are.told)
  report_on (Err word.TooLong) way =
      let are = are_told (report_from (market_of start)) way.state way.units way.so_far way.passes.each way.passes.goes in
      makes_of reported limit bytes (answer.TooLong limit) text (history_of start are.legal way.state.market [] reading.TooLong)
      (judged_all limit bytes body start begins way.units way.rest way.passes.whole way.passes.each are.legal are.parts are.each way.state.market are.steps reading.TooLong way.halts.0.0 way.halts.0.1)
      refl (told_as (market_of start) are.legal way.state.market text way.so_far way.last way.writes way.halts.1 are.told)
  report_on (Err (word.Stopped number)) way = report_stopped number way way.halts
  report_on (Err word.NotFlow) way = absurd way.halts
  report_on (Err word.Read) way = absurd way.halts
  report_on (Err word.Write) way = absurd way.halts
  report_on (Err word.Memory) way = absurd way.halts

report_to : (limit : ℕ) (bytes : List ℕ) (ended : Ended (HistoryStop ℕ)) (text : List ℕ) → (over_history report report_from).Comes limit bytes ended text → ReportsTo limit bytes (ended_status limit rejected ended) text
report_to limit bytes ended text (inl other) = rw other.1 (inl (inl (other.0, refl), other.2))
report_to limit bytes ended text (inr (inl unsound)) = rw unsound.1 (inl (inr (unsound.0, refl), unsound.2))
report_to limit bytes ended text (inr (inr (start, body, rest, begins, parts, inner, way, is))) = rw parts (rw is (report_on limit bytes rest start body begins inner way))

report_lacks : (limit : ℕ) (bytes : List ℕ) (text : List ℕ) (start : Start) (body : List ℕ) → BeginsWith starts (take limit bytes) start body → LacksOn report (limit < length bytes) (length (starts.encode start)) body (report_from (market_of start)) text → ReportsShort limit bytes text
report_lacks limit bytes text start body begins way =
    let are = are_told (report_from (market_of start)) way.state way.units text way.passes.each way.passes.goes in
    elim way.allocates [
      | inl (next, more, prefix, allocates) ↦
          let at = at_pair limit bytes body start begins way.units way.rest way.passes.whole way.passes.each are.legal are.parts are.each way.state.market are.steps next more prefix in
          elim allocates [
            | inl want ↦ inr (start, are.legal, way.state.market, next, at, inl want, are.told)
            | inr other ↦ elim other [ inl seen ↦ inr (start, are.legal, way.state.market, next, at, inr (seen.0, seen.1), are.told) | inr not_legal ↦ absurd not_legal.1 ]
          ]
      | inr end ↦ absurd end.1
    ]

report_out : (limit : ℕ) (bytes : List ℕ) (text : List ℕ) → (over_history report report_from).Lacks limit bytes text → ReportsShort limit bytes text
report_out limit bytes text (inl lacks) = inl lacks
report_out limit bytes text (inr (inl opening)) = absurd opening.3
report_out limit bytes text (inr (inr (start, body, rest, begins, parts, way))) = rw parts (report_lacks limit bytes rest start body begins way)

pub report_form : IsForm (over_history report report_from) Report rejected Nothing
report_form = history_form report (plainly report_from) report_is_exact Report rejected report_to (λ limit bytes n text more. more) report_out stops_own (λ limit. refl) (λ bytes. refl)
