-- What a form gets to is a prefix of the text that the bytes determine.
use Rattle.std.proofs.Common.{◌<◌, ℕ, List, [], ◌∷◌, ◌++◌, length, take, drop, inl, inr, append-nil, length-append, refl, sym, ap, subst, ◌∙◌, arith}
use Rattle.std.proofs.lemmas.List.{take-append-drop, take_at}
use Rattle.wire_records.specs.Records.{Record}
use Rattle.wire_records.specs.declared.version.Version.{Version}
use Rattle.market_rules.specs.Market.{Market, IsConsistent}
use Rattle.word_driver.specs.Ended.{Ended}
use Rattle.word_driver.specs.Word.{Word}
use Rattle.word_driver.specs.Does.{Task, task}
use Rattle.word_driver.specs.Laws.{IsExact, IsKept, HasNext}
use Rattle.word_driver.proofs.OneEnds.{begun_is_a_prefix as word_prefix}
use Rattle.word_driver.proofs.SomeEnds.{some_end}
use Rattle.encode_word.specs.Encoding.{EncodesInput}
use Rattle.encode_word.proofs.Encoding.{begins_or_not}
use Rattle.encode_word.proofs.Prefixes.{Begins}
use Rattle.encode_word.proofs.Prefixes.{first_begins as lines_begin}
use Rattle.exchange_session.specs.Running.{run}
use Rattle.exchange_session.proofs.RunLaws.{run_is_exact, run_is_kept, run_has_next}
use Rattle.journal_words.specs.Words.{audit, explain, report}
use Rattle.journal_words.proofs.JournalLaws.{audit_is_exact, explain_is_exact, report_is_exact}
use Rattle.journal_checkpoint.specs.Checkpointing.{checkpoint}
use Rattle.journal_checkpoint.proofs.CheckpointLaws.{checkpoint_is_exact}
use Rattle.history_words.specs.declared.stop.HistoryStop.{HistoryStop}
use Rattle.history_words.specs.Histories.{Beginning, plainly, at_first, over_history_from}
use Rattle.statement_word.specs.Stating.{statement, statement_begins}
use Rattle.statement_word.proofs.StatementLaws.{statement_is_exact}
use Rattle.session_resume.proofs.OneResumption.{into_is_prefix}
use Rattle.flow_exchange.specs.declared.form.Form.{Form}
use Rattle.flow_exchange.specs.declared.form.Form.TheVariants.{Run, Audit, Explain, Report, Encode, Sample, Statement, Checkpoint, Resume}
use Rattle.exit_status.specs.declared.status.Status.{Status}
use Rattle.flow_exchange.specs.Statuses.{ended_status}
use Rattle.flow_exchange.specs.Private.{no_reason, no_statement, rejected}
use Rattle.flow_exchange.specs.Program.{ComesTo, ComesToIfMore}
use Rattle.flow_exchange.proofs.Outcomes.{one_end}
use Rattle.flow_exchange.proofs.IfMore.{comes_back}
use Rattle.flow_exchange.proofs.HistoryIfMore.{history_back}
use Rattle.flow_exchange.proofs.Words.{Nothing, IsForm}
use Rattle.flow_exchange.proofs.RunWord.{run_form, start}
use Rattle.flow_exchange.proofs.HistoryForms.{audit_form, report_form, audit_from, report_from}
use Rattle.flow_exchange.proofs.ExplainForm.{explain_form}
use Rattle.flow_exchange.proofs.StatementForm.{statement_form}
use Rattle.flow_exchange.proofs.CheckpointForm.{checkpoint_form, checkpoint_from}
use Rattle.flow_laws.specs.Laws.{BegunIsAPrefix}
use Rattle.flow_laws.proofs.HistoryEnds.{more_or_not, history_prefix, some_history_end, audit_goes, explain_goes, report_goes, checkpoint_goes, statement_goes}
use Rattle.flow_laws.proofs.ResumeCuts.{cut_into}

-- ---- a task that has an end for all bytes, and whose first bytes come to a prefix

module _ {B : Type 0} (t : Task B) (form : Form) (own : B → Status) (is : IsForm t form own Nothing) (some : (limit : ℕ) (bytes : List ℕ) → ((ended : Ended B) (text : List ℕ) → ¬ t.Comes limit bytes ended text) → ⊥)
    (first_of : (limit : ℕ) (bytes : List ℕ) (n : ℕ) (ended other : Ended B) (text begun : List ℕ) → t.Comes limit bytes ended text → t.Comes (length (take n (take limit bytes))) (take n (take limit bytes) ++ 0 ∷ []) other begun → Begins text begun) where
  -- there are an end of all bytes and one of the first, under a double negation, and whether a text begins with another is decided
  task_begins : (limit : ℕ) (bytes : List ℕ) (status : Status) (text begun : List ℕ) (n : ℕ) → ComesTo form limit bytes status text → ComesToIfMore form (take n (take limit bytes)) begun → Begins text begun
  task_begins limit bytes status text begun n comes begins =
      let first = take n (take limit bytes) in
      let longer = first ++ 0 ∷ [] in
      elim (begins_or_not begun text) [
        | inl on ↦ on
        | inr not ↦
            absurd (some limit bytes (λ ended x all.
            some (length first) longer (λ other y part.
            let whole = one_end form limit bytes (ended_status limit own ended) status x text (is.to limit bytes ended x all) comes in
            let there = one_end form (length first) longer (ended_status (length first) own other) (begins 0 []).0 y begun (is.to (length first) longer other y part) (begins 0 []).1 in
            let prefix = first_of limit bytes n ended other x y all part in
            not (subst (λ (xs : List ℕ). Begins xs begun) whole.1 (subst (λ (ys : List ℕ). Begins x ys) there.1 prefix)))))
      ]

-- ---- a word of the driver, and one over a history

module _ {U S B : Type 0} (w : Word U S B) (start : Version → S) (exact : IsExact w) (kept : IsKept w start) (next : HasNext w start) (form : Form) (own : B → Status) (is : IsForm (task w start) form own Nothing) where
  word_begins : (limit : ℕ) (bytes : List ℕ) (status : Status) (text begun : List ℕ) (n : ℕ) → ComesTo form limit bytes status text → ComesToIfMore form (take n (take limit bytes)) begun → Begins text begun
  word_begins = task_begins (task w start) form own is (some_end w start exact kept next)
      (λ limit bytes n ended other text begun all part. word_prefix w start exact limit bytes n ended begun text (inl (other, comes_back w start (take n (take limit bytes)) 0 [] other begun part)) all)

module _ {S B : Type 0} (w : Word (Record × Record) S B) (begins : Beginning S) (exact : IsExact w) (next : (market : Market) → IsConsistent market → HasNext w (λ (version : Version). begins.starts market))
    (form : Form) (own : HistoryStop B → Status) (is : IsForm (over_history_from w begins) form own Nothing) where
  history_begins : (limit : ℕ) (bytes : List ℕ) (status : Status) (text begun : List ℕ) (n : ℕ) → ComesTo form limit bytes status text → ComesToIfMore form (take n (take limit bytes)) begun → Begins text begun
  history_begins = task_begins (over_history_from w begins) form own is (some_history_end w begins exact next)
      (λ limit bytes n ended other text begun all part.
      history_prefix w begins exact (take limit bytes) n (limit < length bytes) other ended begun text (history_back w begins (take n (take limit bytes)) 0 [] other begun part) all)

-- ---- encode

module _ (version : Version) where
  encode_begins : (limit : ℕ) (bytes : List ℕ) (status other : Status) (text begun : List ℕ) (n : ℕ) → ComesTo (Encode version) limit bytes status text
      → ComesTo (Encode version) (length (take n (take limit bytes))) (take n (take limit bytes) ++ 0 ∷ []) other begun → Begins text begun
  encode_begins limit bytes status other text begun n all part =
      let first = take n (take limit bytes) in
      let later = drop n (take limit bytes) in
      let longer : length first < length (first ++ 0 ∷ []) = omega (arith, length-append first (0 ∷ [])) in
      let here = subst (λ (xs : List ℕ). EncodesInput version (length first < length (first ++ 0 ∷ [])) xs part.0 begun) (take_at first (0 ∷ []) (length first) refl) part.1 in
      lines_begin version (limit < length bytes) (length first < length (first ++ 0 ∷ [])) longer (more_or_not limit (length bytes)) first later all.0 part.0 text begun
      (subst (λ (xs : List ℕ). EncodesInput version (limit < length bytes) xs all.0 text) (sym (take-append-drop n (take limit bytes))) all.1) here

-- ---- all forms

-- what some first bytes result in is a prefix
first_begins : (form : Form) (limit : ℕ) (bytes : List ℕ) (status : Status) (text begun : List ℕ) (n : ℕ) → ComesTo form limit bytes status text → ComesToIfMore form (take n (take limit bytes)) begun → Begins text begun
first_begins Run limit bytes status text begun n comes more = word_begins run start run_is_exact run_is_kept run_has_next Run no_reason run_form limit bytes status text begun n comes more
first_begins Audit limit bytes status text begun n comes more =
    history_begins audit (plainly audit_from) audit_is_exact audit_goes Audit rejected audit_form limit bytes status text begun n comes more
first_begins Explain limit bytes status text begun n comes more =
    history_begins explain (plainly audit_from) explain_is_exact explain_goes Explain rejected explain_form limit bytes status text begun n comes more
first_begins Report limit bytes status text begun n comes more =
    history_begins report (plainly report_from) report_is_exact report_goes Report rejected report_form limit bytes status text begun n comes more
first_begins (Encode version) limit bytes status text begun n comes more = let part = (more 0 []).1 in encode_begins version limit bytes status (more 0 []).0 text begun n comes part
first_begins (Sample number orders) limit bytes status text begun n comes more =
    ([], (one_end (Sample number orders) limit bytes status (more 0 []).0 text begun comes (more 0 []).1).1 ∙ sym (append-nil begun))
first_begins (Statement number) limit bytes status text begun n comes more =
    history_begins statement (at_first (statement_begins number)) statement_is_exact (statement_goes number) (Statement number) no_statement (statement_form number) limit bytes status text begun n comes more
first_begins Checkpoint limit bytes status text begun n comes more =
    history_begins checkpoint (plainly checkpoint_from) checkpoint_is_exact checkpoint_goes Checkpoint rejected checkpoint_form limit bytes status text begun n comes more
first_begins Resume limit bytes status text begun n comes more =
    elim (cut_into limit bytes n begun more) [
      | inl none ↦ (text, ap (λ xs. xs ++ text) (sym none))
      | inr into ↦ into_is_prefix (limit < length bytes) (take limit bytes) comes.0 text begun comes.1 into
    ]

pub begun_is_a_prefix : BegunIsAPrefix
begun_is_a_prefix form limit bytes status text begun comes (inl (n, more)) = first_begins form limit bytes status text begun n comes more
begun_is_a_prefix form limit bytes status text begun comes (inr (other, whole)) = ([], (one_end form limit bytes status other text begun comes whole).1 ∙ sym (append-nil begun))
