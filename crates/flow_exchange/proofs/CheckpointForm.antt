-- The checkpoint form does what the clauses of the program say: it results in the checkpoint of the market at the end of a history.
use Rattle.std.proofs.Common.{◌≡◌, ◌<◌, ◌+◌, ℕ, List, [], ◌∷◌, ◌++◌, Ok, Err, length, take, refl, ap, ◌∙◌, inl, inr, arith}
use Rattle.wire_records.specs.Records.{Record}
use Rattle.wire_records.specs.Grammars.{BeginsWith, encode_all}
use Rattle.wire_records.specs.Reading.{End}
use Rattle.wire_records.specs.Reading as reading
use Rattle.journal_records.specs.Formats.{journals}
use Rattle.market_rules.specs.Market.{Market}
use Rattle.market_snapshot.specs.Checkpoints.{checkpoint_bytes}
use Rattle.market_history.specs.Histories.{Start, market_of, starts}
use Rattle.word_driver.specs.declared.fault.Fault.TheVariants as word
use Rattle.word_driver.specs.Ended.{Ended}
use Rattle.word_driver.specs.Word.{Goes, Halts, ComesOn, LacksOn}
use Rattle.journal_words.specs.Watching.{Watched}
use Rattle.journal_words.proofs.JournalLaws.{are_legal}
use Rattle.journal_checkpoint.specs.Checkpointing.{checkpointing, checkpoint}
use Rattle.journal_checkpoint.proofs.CheckpointLaws.{checkpoint_is_exact}
use Rattle.history_words.specs.declared.stop.HistoryStop.{HistoryStop}
use Rattle.history_words.specs.Histories.{following, plainly, over_history}
use Rattle.flow_exchange.specs.declared.form.Form.TheVariants.{Checkpoint}
use Rattle.exit_status.specs.declared.status.Status.TheVariants as answer
use Rattle.flow_exchange.specs.Statuses.{ended_status}
use Rattle.flow_exchange.specs.Private.{rejected}
use Rattle.flow_exchange.specs.HistoryFiles.{History}
use Rattle.flow_exchange.specs.Checkpointing.{checkpoint_text, CheckpointsTo, CheckpointsShort}
use Rattle.flow_exchange.specs.JournalFiles.{audit_status}
use Rattle.flow_exchange.proofs.HistoryOf.{history_of, makes_of, judged_all, judged_some, at_pair}
use Rattle.flow_exchange.proofs.Words.{Nothing, IsForm, history_form}
use Rattle.flow_exchange.proofs.HistoryForms.{last_alone, stops_own}

abbrev pub checkpoint_from : Market → Watched (Unit {0})
checkpoint_from market = record { market = market; pairs = 0; seen = tt }

-- nothing is written before the end
nothing_yet : (old new : Watched (Unit {0})) (units : List (Record × Record)) (text : List ℕ) → Goes checkpoint old units new text → text ≡ []
nothing_yet old new [] text goes = goes.1
nothing_yet old new (unit ∷ units) text goes = goes.5 ∙ ap (λ xs. xs ++ goes.2) goes.3.sees ∙ nothing_yet goes.0 new units goes.2 goes.4

abbrev kept_as : History → List ℕ → Type 0
kept_as history text = text ≡ checkpoint_text history

module _ (limit : ℕ) (bytes text : List ℕ) (start : Start) (body : List ℕ) (begins : BeginsWith starts (take limit bytes) start body) where
  abbrev More : Type 0
  More = limit < length bytes

  abbrev first : ℕ
  first = length (starts.encode start)

  -- the text is what was written last
  last_only : (ended : Ended ℕ) (way : ComesOn checkpoint More first body (checkpoint_from (market_of start)) ended text) → text ≡ way.last
  last_only ended way = last_alone text way.so_far way.last way.writes (nothing_yet (checkpoint_from (market_of start)) way.state way.units way.so_far way.passes.goes)

  stopped : (number : ℕ) → (way : ComesOn checkpoint More first body (checkpoint_from (market_of start)) (Err (word.Stopped number)) text)
      → Halts checkpoint More (first + length (encode_all journals.units way.units)) way.rest way.state (Err (word.Stopped number)) way.last → CheckpointsTo limit bytes (answer.Rejected number) text
  stopped number way (inl (bad, more, prefix, stops)) =
      let are = are_legal checkpointing (checkpoint_from (market_of start)) way.state way.units way.so_far way.passes.each way.passes.goes in
      let on = judged_some limit bytes body start begins way.units way.rest way.passes.whole way.passes.each are.legal are.parts are.each way.state.market are.steps bad more prefix stops.0 in
      let named : answer.Rejected number ≡ audit_status limit on.1 are.legal (bad ∷ on.0) = ap (λ (k : ℕ). answer.Rejected k) (omega (arith, stops.1.0, are.pairs)) in
      makes_of kept_as limit bytes (answer.Rejected number) text (history_of start are.legal way.state.market (bad ∷ on.0) on.1) on.2 named (last_only (Err (word.Stopped number)) way ∙ stops.1.1)
  stopped number way (inr at) = absurd at.1

  checkpoint_on : (inner : Ended ℕ) → ComesOn checkpoint More first body (checkpoint_from (market_of start)) inner text → CheckpointsTo limit bytes (ended_status limit rejected (following inner)) text
  checkpoint_on (Ok done) way =
      let are = are_legal checkpointing (checkpoint_from (market_of start)) way.state way.units way.so_far way.passes.each way.passes.goes in
      let is = judged_all limit bytes body start begins way.units way.rest way.passes.whole way.passes.each are.legal are.parts are.each way.state.market are.steps End way.halts.0.0 way.halts.0.1 in
      makes_of kept_as limit bytes answer.Done text (history_of start are.legal way.state.market [] End) is refl (last_only (Ok done) way ∙ way.halts.1)
  checkpoint_on (Err (word.Torn n)) way =
      let are = are_legal checkpointing (checkpoint_from (market_of start)) way.state way.units way.so_far way.passes.each way.passes.goes in
      let is = judged_all limit bytes body start begins way.units way.rest way.passes.whole way.passes.each are.legal are.parts are.each way.state.market are.steps (reading.Torn n) way.halts.0.0 way.halts.0.1 in
      makes_of kept_as limit bytes (answer.Torn n) text (history_of start are.legal way.state.market [] (reading.Torn n)) is refl (last_only (Err (word.Torn n)) way ∙ way.halts.1)
  checkpoint_on (Err word.TooLong) way =
      let are = are_legal checkpointing (checkpoint_from (market_of start)) way.state way.units way.so_far way.passes.each way.passes.goes in
      let is = judged_all limit bytes body start begins way.units way.rest way.passes.whole way.passes.each are.legal are.parts are.each way.state.market are.steps reading.TooLong way.halts.0.0 way.halts.0.1 in
      makes_of kept_as limit bytes (answer.TooLong limit) text (history_of start are.legal way.state.market [] reading.TooLong) is refl (last_only (Err word.TooLong) way ∙ way.halts.1)
  checkpoint_on (Err (word.Stopped number)) way = stopped number way way.halts
  checkpoint_on (Err word.NotFlow) way = absurd way.halts
  checkpoint_on (Err word.Read) way = absurd way.halts
  checkpoint_on (Err word.Write) way = absurd way.halts
  checkpoint_on (Err word.Memory) way = absurd way.halts

checkpoint_to : (limit : ℕ) (bytes : List ℕ) (ended : Ended (HistoryStop ℕ)) (text : List ℕ) → (over_history checkpoint checkpoint_from).Comes limit bytes ended text → CheckpointsTo limit bytes (ended_status limit rejected ended) text
checkpoint_to limit bytes ended text (inl other) = rw other.1 (inl (inl (other.0, refl), other.2))
checkpoint_to limit bytes ended text (inr (inl unsound)) = rw unsound.1 (inl (inr (unsound.0, refl), unsound.2))
checkpoint_to limit bytes ended text (inr (inr (start, body, rest, begins, parts, inner, way, is))) = rw parts (rw is (checkpoint_on limit bytes rest start body begins inner way))

checkpoint_lacks : (limit : ℕ) (bytes : List ℕ) (text : List ℕ) (start : Start) (body : List ℕ) → BeginsWith starts (take limit bytes) start body → LacksOn checkpoint (limit < length bytes) (length (starts.encode start)) body (checkpoint_from (market_of start)) text → CheckpointsShort limit bytes text
checkpoint_lacks limit bytes text start body begins way =
    let are = are_legal checkpointing (checkpoint_from (market_of start)) way.state way.units text way.passes.each way.passes.goes in
    let none : text ≡ [] = nothing_yet (checkpoint_from (market_of start)) way.state way.units text way.passes.goes in
    elim way.allocates [
      | inl (next, more, prefix, allocates) ↦
          let at = at_pair limit bytes body start begins way.units way.rest way.passes.whole way.passes.each are.legal are.parts are.each way.state.market are.steps next more prefix in
          elim allocates [
            | inl want ↦ inl (inr (start, are.legal, way.state.market, next, at, want, none))
            | inr other ↦ elim other [ inl seen ↦ absurd seen.2 | inr not_legal ↦ absurd not_legal.1 ]
          ]
      | inr end ↦
          let is = judged_all limit bytes body start begins way.units way.rest way.passes.whole way.passes.each are.legal are.parts are.each way.state.market are.steps End end.0.0 end.0.1 in
          inr (checkpoint_bytes way.state.market, makes_of kept_as limit bytes answer.Done (checkpoint_bytes way.state.market) (history_of start are.legal way.state.market [] End) is refl refl, none)
    ]

checkpoint_out : (limit : ℕ) (bytes : List ℕ) (text : List ℕ) → (over_history checkpoint checkpoint_from).Lacks limit bytes text → CheckpointsShort limit bytes text
checkpoint_out limit bytes text (inl lacks) = inl (inl lacks)
checkpoint_out limit bytes text (inr (inl opening)) = absurd opening.3
checkpoint_out limit bytes text (inr (inr (start, body, rest, begins, parts, way))) = rw parts (checkpoint_lacks limit bytes rest start body begins way)

pub checkpoint_form : IsForm (over_history checkpoint checkpoint_from) Checkpoint rejected Nothing
checkpoint_form = history_form checkpoint (plainly checkpoint_from) checkpoint_is_exact Checkpoint rejected checkpoint_to (λ limit bytes n text more. more) checkpoint_out stops_own (λ limit. refl) (λ bytes. refl)
