-- Explaining results in the status of an audit, and says what is found of the first invalid entry.
use Rattle.std.proofs.Common.{◌≡◌, ◌≢◌, ◌+◌, ℕ, List, [], ◌∷◌, length, take, inl, inr, refl, ap, subst, ◌∙◌}
use Rattle.wire_records.specs.Records.{Record}
use Rattle.wire_records.specs.Commands.{Pair}
use Rattle.wire_records.specs.Reading.{Ending}
use Rattle.flow_orders.specs.Outcomes.{Outcome}
use Rattle.market_rules.specs.Market.{Market}
use Rattle.journal_words.specs.Findings.{IsExplained}
use Rattle.flow_exchange.specs.declared.form.Form.TheVariants.{Audit}
use Rattle.exit_status.specs.declared.status.Status.{Status}
use Rattle.exit_status.specs.declared.status.Status.TheVariants as answer
use Rattle.flow_exchange.specs.Auditing.{audit_text}
use Rattle.flow_exchange.specs.Explaining.{Explains}
use Rattle.flow_exchange.specs.JournalFiles.{audit_status}
use Rattle.flow_exchange.proofs.HistoryOf.{history_of, makes_of}
use Rattle.flow_exchange.proofs.Outcomes.{one_end}
use Rattle.flow_laws.specs.Laws.{ExplainIsAudit, RejectedIsExplained}
use Rattle.flow_laws.proofs.AuditLaws.{no_history_rejected, history_first, explained_file}

-- the line of the audit is written if no entry is rejected
explained_alike : (limit : ℕ) (market : Market) (legal : List (Pair Record Outcome)) (following : List (Record × Record)) (ending : Ending) (status : Status) (line text : List ℕ) → status ≡ audit_status limit ending legal following → ((number : ℕ) → status ≢ answer.Rejected number)
    → Explains market legal following line text → text ≡ line
explained_alike limit market legal [] ending status line text ends not writes = writes
explained_alike limit market legal (bad ∷ more) ending status line text ends not writes = absurd (not (length legal + 1) ends)

pub explain_is_audit : ExplainIsAudit
explain_is_audit limit bytes text line status other (inl none) audits =
    let same = one_end Audit limit bytes status other text line (inl none) audits in
    (same.0, λ not. same.1)
explain_is_audit limit bytes text line status other (inr file) audits =
    let h = file.0 in
    let told = audit_text h in
    let same = one_end Audit limit bytes status other told line (inr ((h, file.1, file.2, refl))) audits in
    (same.0, λ not. explained_alike limit h.market h.legal h.following h.ending status told text file.2 not file.3 ∙ same.1)

pub rejected_is_explained : RejectedIsExplained
rejected_is_explained limit number bytes text = (
  λ comes.
      elim comes [
        | inl none ↦ absurd (no_history_rejected (take limit bytes) number none.0)
        | inr file ↦
            let h = file.0 in
            explained_file limit number bytes h.start h.legal h.market h.following h.ending (audit_text h) text file.1 file.2 file.3
      ],
  λ illegal.
      let first = illegal.0 in
      let all = history_first limit number bytes first in
      makes_of (λ history text. Explains history.market history.legal history.following (audit_text history) text) limit bytes (answer.Rejected number) text (history_of first.start first.pairs first.market (first.bad ∷ all.0) all.1) all.2
      (ap (λ (n : ℕ). answer.Rejected n) first.counted) (subst (λ (n : ℕ). IsExplained first.market n first.bad text) first.counted illegal.1),
)
