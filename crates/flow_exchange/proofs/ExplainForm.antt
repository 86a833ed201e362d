-- Explaining does what the clauses of the program say: it results in the status of an audit, and in the audit's line or that of the first
-- invalid entry.
use Rattle.std.proofs.Common.{◌≡◌, ◌<◌, ◌+◌, ℕ, List, [], ◌∷◌, All, Ok, Err, length, take, refl, sym, ap, ◌∙◌, subst, inl, inr, arith}
use Rattle.wire_records.specs.Records.{Record}
use Rattle.wire_records.specs.Grammars.{BeginsWith, encode_all}
use Rattle.wire_records.specs.Reading.{End}
use Rattle.wire_records.specs.Reading as reading
use Rattle.journal_records.specs.Formats.{journals}
use Rattle.market_rules.specs.Market.{Market}
use Rattle.market_history.specs.Histories.{Start, market_of, starts}
use Rattle.word_driver.specs.declared.fault.Fault.TheVariants as word
use Rattle.word_driver.specs.Ended.{Ended}
use Rattle.word_driver.specs.Word.{Goes, Halts, ComesOn, LacksOn}
use Rattle.journal_words.specs.Watching.{Watched, SeesOne}
use Rattle.journal_words.specs.Findings.{IsExplained}
use Rattle.journal_words.specs.Words.{Counts, counting, explaining, audit, explain}
use Rattle.journal_words.proofs.JournalLaws.{explain_is_exact}
use Rattle.history_words.specs.declared.stop.HistoryStop.{HistoryStop}
use Rattle.history_words.specs.Histories.{following, plainly, over_history}
use Rattle.flow_exchange.specs.declared.form.Form.TheVariants.{Explain}
use Rattle.exit_status.specs.declared.status.Status.TheVariants as answer
use Rattle.flow_exchange.specs.Statuses.{ended_status}
use Rattle.flow_exchange.specs.Private.{rejected}
use Rattle.flow_exchange.specs.HistoryFiles.{History}
use Rattle.flow_exchange.specs.Auditing.{legal_line, audit_text, AuditsShort}
use Rattle.flow_exchange.specs.Explaining.{Explains, ExplainsTo}
use Rattle.flow_exchange.proofs.HistoryOf.{history_of, makes_of, judged_all, judged_some, at_pair}
use Rattle.flow_exchange.proofs.Words.{Nothing, IsForm, history_form}
use Rattle.flow_exchange.proofs.HistoryForms.{AreCounted, are_counted, audit_from, last_alone, line_is, stops_own}

-- ---- what was seen is what an audit sees

sees_alike : (old new : Watched Counts) (pair : Record × Record) (text : List ℕ) → SeesOne explaining old pair new text → SeesOne counting old pair new text
sees_alike old new pair text one = record { legal = one.legal; counted = one.counted; sees = one.sees }

goes_alike : (old new : Watched Counts) (units : List (Record × Record)) (text : List ℕ) → Goes explain old units new text → Goes audit old units new text
goes_alike old new [] text goes = goes
goes_alike old new (unit ∷ units) text goes = (goes.0, goes.1, goes.2, sees_alike old goes.0 unit goes.1 goes.3, goes_alike goes.0 new units goes.2 goes.4, goes.5)

counted_by : (market : Market) (new : Watched Counts) (units : List (Record × Record)) (text : List ℕ) → All journals.units.IsLawful units → Goes explain (audit_from market) units new text → AreCounted (audit_from market) new units text
counted_by market new units text each goes = are_counted (audit_from market) new units text each (goes_alike (audit_from market) new units text goes)

-- ---- what bytes result in

abbrev explained : History → List ℕ → Type 0
explained history text = Explains history.market history.legal history.following (audit_text history) text

module _ (limit : ℕ) (bytes text : List ℕ) (start : Start) (body : List ℕ) (begins : BeginsWith starts (take limit bytes) start body) where
  abbrev More : Type 0
  More = limit < length bytes

  abbrev first : ℕ
  first = length (starts.encode start)

  explain_stopped : (number : ℕ) → (way : ComesOn explain More first body (audit_from (market_of start)) (Err (word.Stopped number)) text)
      → Halts explain More (first + length (encode_all journals.units way.units)) way.rest way.state (Err (word.Stopped number)) way.last → ExplainsTo limit bytes (answer.Rejected number) text
  explain_stopped number way (inl (bad, more, prefix, stops)) =
      let are = counted_by (market_of start) way.state way.units way.so_far way.passes.each way.passes.goes in
      let on = judged_some limit bytes body start begins way.units way.rest way.passes.whole way.passes.each are.legal are.parts are.each way.state.market are.steps bad more prefix stops.0 in
      let place : way.state.pairs + 1 ≡ length are.legal + 1 = omega (arith, are.pairs) in
      let line : text ≡ way.last = last_alone text way.so_far way.last way.writes are.nothing in
      makes_of explained limit bytes (answer.Rejected number) text (history_of start are.legal way.state.market (bad ∷ on.0) on.1) on.2 (ap (λ (k : ℕ). answer.Rejected k) (stops.1.0 ∙ place))
      (subst (λ (x : List ℕ). IsExplained way.state.market (length are.legal + 1) bad x) (sym line) (subst (λ (k : ℕ). IsExplained way.state.market k bad way.last) place stops.1.1))
  explain_stopped number way (inr at) = absurd at.1

  explain_on : (inner : Ended ℕ) → ComesOn explain More first body (audit_from (market_of start)) inner text → ExplainsTo limit bytes (ended_status limit rejected (following inner)) text
  explain_on (Ok done) way =
      let are = counted_by (market_of start) way.state way.units way.so_far way.passes.each way.passes.goes in
      let is = judged_all limit bytes body start begins way.units way.rest way.passes.whole way.passes.each are.legal are.parts are.each way.state.market are.steps End way.halts.0.0 way.halts.0.1 in
      let line : text ≡ legal_line are.legal = last_alone text way.so_far way.last way.writes are.nothing ∙ way.halts.1 ∙ line_is way.state.pairs way.state.seen.cleared way.state.seen.skipped are.legal (omega (arith, are.pairs)) (omega (arith, are.cleared)) (omega (arith, are.skipped)) in
      makes_of explained limit bytes answer.Done text (history_of start are.legal way.state.market [] End) is refl line
  explain_on (Err (word.Torn n)) way =
      let are = counted_by (market_of start) way.state way.units way.so_far way.passes.each way.passes.goes in
      let is = judged_all limit bytes body start begins way.units way.rest way.passes.whole way.passes.each are.legal are.parts are.each way.state.market are.steps (reading.Torn n) way.halts.0.0 way.halts.0.1 in
      let none : text ≡ [] = last_alone text way.so_far way.last way.writes are.nothing ∙ way.halts.1 in
      makes_of explained limit bytes (answer.Torn n) text (history_of start are.legal way.state.market [] (reading.Torn n)) is refl none
  explain_on (Err word.TooLong) way =
      let are = counted_by (market_of start) way.state way.units way.so_far way.passes.each way.passes.goes in
      let is = judged_all limit bytes body start begins way.units way.rest way.passes.whole way.passes.each are.legal are.parts are.each way.state.market are.steps reading.TooLong way.halts.0.0 way.halts.0.1 in
      let none : text ≡ [] = last_alone text way.so_far way.last way.writes are.nothing ∙ way.halts.1 in
      makes_of explained limit bytes (answer.TooLong limit) text (history_of start are.legal way.state.market [] reading.TooLong) is refl none
  explain_on (Err (word.Stopped number)) way = explain_stopped number way way.halts
  explain_on (Err word.NotFlow) way = absurd way.halts
  explain_on (Err word.Read) way = absurd way.halts
  explain_on (Err word.Write) way = absurd way.halts
  explain_on (Err word.Memory) way = absurd way.halts

explain_to : (limit : ℕ) (bytes : List ℕ) (ended : Ended (HistoryStop ℕ)) (text : List ℕ) → (over_history explain audit_from).Comes limit bytes ended text → ExplainsTo limit bytes (ended_status limit rejected ended) text
explain_to limit bytes ended text (inl other) = rw other.1 (inl (inl (other.0, refl), other.2))
explain_to limit bytes ended text (inr (inl unsound)) = rw unsound.1 (inl (inr (unsound.0, refl), unsound.2))
explain_to limit bytes ended text (inr (inr (start, body, rest, begins, parts, inner, way, is))) = rw parts (rw is (explain_on limit bytes rest start body begins inner way))

-- ---- where memory may run out

explain_lacks : (limit : ℕ) (bytes : List ℕ) (text : List ℕ) (start : Start) (body : List ℕ) → BeginsWith starts (take limit bytes) start body → LacksOn explain (limit < length bytes) (length (starts.encode start)) body (audit_from (market_of start)) text → AuditsShort limit bytes text
explain_lacks limit bytes text start body begins way =
    let are = counted_by (market_of start) way.state way.units text way.passes.each way.passes.goes in
    elim way.allocates [
      | inl (next, more, prefix, allocates) ↦
          let at = at_pair limit bytes body start begins way.units way.rest way.passes.whole way.passes.each are.legal are.parts are.each way.state.market are.steps next more prefix in
          elim allocates [
            | inl want ↦ inr (start, are.legal, way.state.market, next, at, want, are.nothing)
            | inr other ↦ elim other [ inl seen ↦ absurd seen.2 | inr not_legal ↦ inr (start, are.legal, way.state.market, next, at, not_legal.1, are.nothing) ]
          ]
      | inr end ↦ absurd end.1
    ]

explain_out : (limit : ℕ) (bytes : List ℕ) (text : List ℕ) → (over_history explain audit_from).Lacks limit bytes text → AuditsShort limit bytes text
explain_out limit bytes text (inl lacks) = inl lacks
explain_out limit bytes text (inr (inl opening)) = absurd opening.3
explain_out limit bytes text (inr (inr (start, body, rest, begins, parts, way))) = rw parts (explain_lacks limit bytes rest start body begins way)

pub explain_form : IsForm (over_history explain audit_from) Explain rejected Nothing
explain_form = history_form explain (plainly audit_from) explain_is_exact Explain rejected explain_to (λ limit bytes n text more. more) explain_out stops_own (λ limit. refl) (λ bytes. refl)
