-- No bytes are without a status and a text, whatever the form.
use Rattle.std.proofs.Common.{ℕ, Option, List, ◌<◌, length, take}
use Rattle.word_driver.specs.Does.{Task, task}
use Rattle.word_driver.specs.Ended.{Ended}
use Rattle.word_driver.proofs.SomeEnds.{some_end}
use Rattle.exchange_session.specs.Running.{run}
use Rattle.exchange_session.proofs.RunLaws.{run_is_exact, run_is_kept, run_has_next}
use Rattle.journal_words.specs.Words.{audit, explain, report}
use Rattle.journal_words.proofs.JournalLaws.{audit_is_exact, explain_is_exact, report_is_exact}
use Rattle.history_words.specs.Histories.{plainly, at_first, over_history, over_history_from}
use Rattle.encode_word.specs.Tasks.{encode_task}
use Rattle.encode_word.proofs.Encoding.{encodes_some}
use Rattle.flow_exchange.specs.declared.form.Form.{Form}
use Rattle.flow_exchange.specs.declared.form.Form.TheVariants.{Run, Audit, Explain, Report, Encode, Sample, Statement, Checkpoint, Resume}
use Rattle.exit_status.specs.declared.status.Status.{Status}
use Rattle.flow_exchange.specs.Statuses.{ended_status, unencoded, unfit_status}
use Rattle.flow_exchange.specs.Private.{no_reason, no_statement, rejected}
use Rattle.flow_exchange.specs.Program.{ComesTo}
use Rattle.flow_laws.specs.Laws.{NoneIsWithoutEnd}
use Rattle.flow_exchange.proofs.Words.{IsForm}
use Rattle.flow_exchange.proofs.RunWord.{run_form, start}
use Rattle.flow_exchange.proofs.EncodeForm.{encode_form}
use Rattle.flow_exchange.proofs.HistoryForms.{audit_form, report_form, audit_from, report_from}
use Rattle.flow_exchange.proofs.ExplainForm.{explain_form}
use Rattle.flow_exchange.proofs.StatementForm.{statement_form}
use Rattle.statement_word.specs.Stating.{statement, statement_begins}
use Rattle.statement_word.proofs.StatementLaws.{statement_is_exact}
use Rattle.flow_exchange.proofs.CheckpointForm.{checkpoint_form, checkpoint_from}
use Rattle.flow_exchange.proofs.ResumeForm.{resume_form}
use Rattle.journal_checkpoint.specs.Checkpointing.{checkpoint}
use Rattle.journal_checkpoint.proofs.CheckpointLaws.{checkpoint_is_exact}
use Rattle.session_resume.specs.Tasks.{resuming}
use Rattle.session_resume.proofs.SomeResumption as resumption
use Rattle.flow_laws.proofs.HistoryEnds.{more_or_not, some_history_end, audit_goes, explain_goes, report_goes, checkpoint_goes, statement_goes}
use Rattle.flow_laws.proofs.SampleLaws.{some_sample}

-- a form has some outcome if its task has some end
some_end_of : {B : Type 0} {Unread : Option (List ℕ) → Option (List ℕ) → Type 0} (t : Task B) (form : Form) (limit : ℕ) (own : B → Status) → IsForm t form own Unread → (bytes : List ℕ)
    → (((ended : Ended B) (text : List ℕ) → ¬ t.Comes limit bytes ended text) → ⊥) → ((status : Status) (text : List ℕ) → ¬ ComesTo form limit bytes status text) → ⊥
some_end_of t form limit own is bytes some none = some (λ ended text comes. none (ended_status limit own ended) text (is.to limit bytes ended text comes))

pub none_is_without_end : NoneIsWithoutEnd
none_is_without_end words Run limit bytes asks = some_end_of (task run start) Run limit no_reason run_form bytes (some_end run start run_is_exact run_is_kept run_has_next limit bytes)
none_is_without_end words Audit limit bytes asks = some_end_of (over_history audit audit_from) Audit limit rejected audit_form bytes (some_history_end audit (plainly audit_from) audit_is_exact audit_goes limit bytes)
none_is_without_end words Explain limit bytes asks = some_end_of (over_history explain audit_from) Explain limit rejected explain_form bytes (some_history_end explain (plainly audit_from) explain_is_exact explain_goes limit bytes)
none_is_without_end words Report limit bytes asks = some_end_of (over_history report report_from) Report limit rejected report_form bytes (some_history_end report (plainly report_from) report_is_exact report_goes limit bytes)
none_is_without_end words (Encode version) limit bytes asks = some_end_of (encode_task version) (Encode version) limit unencoded (encode_form version) bytes (encodes_some version (limit < length bytes) (more_or_not limit (length bytes)) (take limit bytes))
none_is_without_end words (Statement number) limit bytes asks =
    some_end_of (over_history_from statement (at_first (statement_begins number))) (Statement number) limit no_statement (statement_form number) bytes
    (some_history_end statement (at_first (statement_begins number)) statement_is_exact (statement_goes number) limit bytes)
none_is_without_end words Checkpoint limit bytes asks =
    some_end_of (over_history checkpoint checkpoint_from) Checkpoint limit rejected checkpoint_form bytes (some_history_end checkpoint (plainly checkpoint_from) checkpoint_is_exact checkpoint_goes limit bytes)
none_is_without_end words Resume limit bytes asks =
    some_end_of resuming Resume limit unfit_status resume_form bytes (resumption.some_end_of (limit < length bytes) (take limit bytes))
none_is_without_end words (Sample number orders) limit bytes asks = some_sample number orders asks.few
