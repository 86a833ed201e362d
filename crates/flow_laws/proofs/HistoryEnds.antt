-- Bytes come to some end by a subcommand over a history, and what some first of them come to if more follow is a prefix of the text.
use Rattle.std.proofs.Common.{◌≡◌, ◌⊎◌, ◌+◌, ◌<◌, ℕ, List, [], ◌++◌, Err, inl, inr, length, take, drop, append_assoc, refl, sym, ap, ◌∙◌, arith}
use Rattle.std.proofs.lemmas.Bool.{cases_lt}
use Rattle.std.proofs.lemmas.List.{take-append-drop}
use Rattle.wire_records.specs.Records.{Record}
use Rattle.wire_records.specs.Grammars.{BeginsWith}
use Rattle.wire_records.specs.declared.version.Version.{Version}
use Rattle.wire_records.specs.declared.version.Version.TheVariants.{One}
use Rattle.market_rules.specs.Market.{Market, IsConsistent, empty_market}
use Rattle.market_history.specs.Histories.{Start, market_of, starts}
use Rattle.word_driver.specs.declared.fault.Fault.TheVariants.{NotFlow, Stopped}
use Rattle.word_driver.specs.Ended.{Ended}
use Rattle.word_driver.specs.Word.{Word}
use Rattle.word_driver.specs.Laws.{IsExact, HasNext}
use Rattle.word_driver.proofs.Denying.{one_of}
use Rattle.word_driver.proofs.OneEnds.{begins_on}
use Rattle.word_driver.proofs.SomeEnds.{comes_to_some}
use Rattle.journal_words.specs.Words.{audit, explain, report}
use Rattle.journal_words.proofs.JournalLaws.{audit_has_next, explain_has_next, report_has_next}
use Rattle.journal_checkpoint.specs.Checkpointing.{checkpoint}
use Rattle.journal_checkpoint.proofs.CheckpointLaws.{checkpoint_has_next}
use Rattle.history_words.specs.declared.stop.HistoryStop.{HistoryStop}
use Rattle.history_words.specs.declared.stop.HistoryStop.TheVariants.{NoCheckpoint}
use Rattle.history_words.specs.Histories.{following, Beginning, at_first, ComesFrom, over_history_from}
use Rattle.history_words.proofs.Starts.{magic_or_not, one_start, moved}
use Rattle.statement_word.specs.Stating.{statement, statement_begins}
use Rattle.statement_word.proofs.StatementLaws.{statement_has_next}
use Rattle.flow_exchange.proofs.HistoryOf.{consistent_start}
use Rattle.flow_exchange.proofs.HistoryForms.{audit_from, report_from}
use Rattle.flow_exchange.proofs.CheckpointForm.{checkpoint_from}

-- what begins with something
abbrev Begins : List ℕ → List ℕ → Type 0
Begins text begun = (rest : List ℕ) × (text ≡ begun ++ rest)

-- there is more than the limit, or not
pub more_or_not : (limit n : ℕ) → (limit < n) ⊎ (¬ (limit < n))
more_or_not limit n = elim (cases_lt limit n) [ inl more ↦ inl more | inr not ↦ inr (λ more. omega (arith, more, not)) ]

module _ {S B : Type 0} (w : Word (Record × Record) S B) (begins : Beginning S) (exact : IsExact w) where
  nothing_begins : (text begun : List ℕ) → begun ≡ [] → Begins text begun
  nothing_begins text begun none = (text, ap (λ xs. xs ++ text) (sym none))

  -- what comes after the same opening
  later_begins : (opening early words text begun : List ℕ) → begun ≡ opening ++ early → text ≡ opening ++ words → Begins words early → Begins text begun
  later_begins opening early words text begun parts all_parts (rest, is) =
      (rest, all_parts ∙ ap (λ xs. opening ++ xs) is ∙ sym (append_assoc opening early rest) ∙ ap (λ xs. xs ++ rest) (sym parts))

  pub history_prefix : (bytes : List ℕ) (n : ℕ) (More : Type 0) (e f : Ended (HistoryStop B)) (begun text : List ℕ) → ComesFrom w begins (take n bytes) (Unit {0}) e begun → ComesFrom w begins bytes More f text → Begins text begun
  history_prefix bytes n More e f begun text (inl other) all = nothing_begins text begun other.2
  history_prefix bytes n More e f begun text (inr (inl unsound)) all = nothing_begins text begun unsound.2
  history_prefix bytes n More e f begun text (inr (inr (start, body, early, first, parts, inner, on, is))) all =
      let whole : bytes ≡ starts.encode start ++ (body ++ drop n bytes) = sym (take-append-drop n bytes) ∙ ap (λ xs. xs ++ drop n bytes) first.1 ∙ append_assoc (starts.encode start) body (drop n bytes) in
      elim all [
        | inl other ↦ absurd (other.0.0 start (body ++ drop n bytes) first.0 whole)
        | inr begun_so ↦
            elim begun_so [
              | inl unsound ↦ absurd (unsound.0.0 start (body ++ drop n bytes) first.0 whole)
              | inr (other, later, words, starting, all_parts, ended, goes, also) ↦
                  let one = one_start start other (body ++ drop n bytes) later first.0 starting.0 (sym whole ∙ starting.1) in
                  let prefix = begins_on w (λ (version : Version). begins.starts (empty_market version)) exact More (length (starts.encode start)) body (drop n bytes) (begins.starts (market_of start)) inner ended early words on
                  (moved w begins exact start other (body ++ drop n bytes) later bytes More ended words (first.0, whole) starting goes)
                  in
                  later_begins (begins.opens (market_of start)) early words text begun parts (all_parts ∙ ap (λ (s : Start). begins.opens (market_of s) ++ words) (sym one.0)) prefix
            ]
      ]

  -- where a subcommand can continue from each consistent market, it continues from what begins a history, or none begins
  pub some_history_end : ((market : Market) → IsConsistent market → HasNext w (λ (version : Version). begins.starts market)) → (limit : ℕ) (bytes : List ℕ) → ((ended : Ended (HistoryStop B)) (text : List ℕ) → ¬ (over_history_from w begins).Comes limit bytes ended text) → ⊥
  some_history_end next limit bytes none =
      one_of ((start : Start) × (body : List ℕ) × BeginsWith starts (take limit bytes) start body) (λ told. elim told [
        | inl (start, body, first) ↦
            comes_to_some w (λ (version : Version). begins.starts (market_of start)) exact (next (market_of start) (consistent_start start first.0)) One (limit < length bytes) (length (starts.encode start)) body (more_or_not limit (length bytes))
            (λ found. none (following found.0) (begins.opens (market_of start) ++ found.1) (inr (inr (start, body, found.1, first, refl, found.0, found.2, refl))))
        | inr not ↦
            elim (magic_or_not (take limit bytes)) [
              | inl magic ↦ none (Err (Stopped NoCheckpoint)) [] (inr (inl ((λ start rest lawful e. not (start, rest, (lawful, e)), magic), refl, refl)))
              | inr neither ↦ none (Err NotFlow) [] (inl ((λ start rest lawful e. not (start, rest, (lawful, e)), neither), refl, refl))
            ]
      ])

-- from each consistent market an audit, an explanation, a report, a checkpoint and a statement go on
pub audit_goes : (market : Market) → IsConsistent market → HasNext audit (λ (version : Version). audit_from market)
audit_goes market consistent = audit_has_next (λ (version : Version). audit_from market) (λ version. consistent)

pub explain_goes : (market : Market) → IsConsistent market → HasNext explain (λ (version : Version). audit_from market)
explain_goes market consistent = explain_has_next (λ (version : Version). audit_from market) (λ version. consistent)

pub report_goes : (market : Market) → IsConsistent market → HasNext report (λ (version : Version). report_from market)
report_goes market consistent = report_has_next (λ (version : Version). report_from market) (λ version. consistent)

pub checkpoint_goes : (market : Market) → IsConsistent market → HasNext checkpoint (λ (version : Version). checkpoint_from market)
checkpoint_goes market consistent = checkpoint_has_next (λ (version : Version). checkpoint_from market) (λ version. consistent)

pub statement_goes : (account : ℕ) (market : Market) → IsConsistent market → HasNext statement (λ (version : Version). (at_first (statement_begins account)).starts market)
statement_goes account market consistent = statement_has_next (λ (version : Version). (at_first (statement_begins account)).starts market) (λ version. consistent)
