-- How a subcommand over a history ends where none begins.
use Rattle.std.proofs.Common.{◌≡◌, ◌↔◌, ℕ, Bool, true, false, if◌then◌else◌, List, [], ◌∷◌, ◌++◌, take, inl, inr, refl, ap, ◌∙◌}
use Rattle.wire_records.specs.Records.{Record}
use Rattle.wire_records.specs.Commands.{Pair}
use Rattle.wire_records.specs.Grammars.{BeginsWithNone}
use Rattle.wire_records.specs.Reading.{Ending, End, Torn, TooLong}
use Rattle.flow_orders.specs.Outcomes.{Outcome}
use Rattle.journal_records.specs.Formats.{journals}
use Rattle.market_snapshot.specs.Checkpoints.{checkpoint_bytes, HasCheckpointMagic, BeginsWithNoCheckpoint}
use Rattle.market_history.specs.Histories.{Empty, Kept, market_of, starts, BeginsUnsound, BeginsOtherwise}
use Rattle.market_history.proofs.Starting.{kept_magic}
use Rattle.history_words.proofs.Starts.{other_magics}
use Rattle.exit_status.specs.declared.status.Status.TheVariants as answer
use Rattle.flow_exchange.specs.JournalFiles.{if_whole, audit_status}
use Rattle.flow_exchange.specs.HistoryFiles.{History, history_status, HistoryTo}
use Rattle.flow_exchange.specs.Stating.{statement_status, States}
use Rattle.statement_rules.specs.Views.{is_there}
use Rattle.exit_status.specs.declared.status.Status.{Status}
use Rattle.flow_exchange.specs.Auditing.{audit_text}
use Rattle.flow_exchange.specs.Explaining.{Explains}
use Rattle.flow_exchange.specs.Reporting.{AreReported}
use Rattle.flow_exchange.specs.Checkpointing.{checkpoint_text}
use Rattle.flow_laws.specs.Laws.{BadIsUnsound}
use Rattle.flow_laws.proofs.AuditLaws.{audited}

-- an audit of a history has neither status
not_bad : (limit : ℕ) (ending : Ending) (legal : List (Pair Record Outcome)) (following : List (Record × Record)) → answer.BadCheckpoint ≡ audit_status limit ending legal following → ⊥
not_bad limit End legal [] e = cc
not_bad limit (Torn n) legal [] e = cc
not_bad limit TooLong legal [] e = cc
not_bad limit ending legal (bad ∷ more) e = cc

not_other : (limit : ℕ) (ending : Ending) (legal : List (Pair Record Outcome)) (following : List (Record × Record)) → answer.NotFlow ≡ audit_status limit ending legal following → ⊥
not_other limit End legal [] e = cc
not_other limit (Torn n) legal [] e = cc
not_other limit TooLong legal [] e = cc
not_other limit ending legal (bad ∷ more) e = cc

-- where no history begins, no checkpoint and no magic of a journal is first
no_checkpoint : (bytes : List ℕ) → BeginsWithNone starts bytes → BeginsWithNoCheckpoint bytes
no_checkpoint bytes none market prefix rest is_one e =
    let encoded = is_one.encoded in
    none (Kept market) rest (rw encoded at is_one) (e ∙ ap (λ xs. xs ++ rest) encoded)

no_journal : (bytes : List ℕ) → BeginsWithNone starts bytes → BeginsWithNone journals.magics bytes
no_journal bytes none version rest lawful e = none (Empty version) rest tt e

-- and the other way round
unstarted : (bytes : List ℕ) → BeginsWithNone journals.magics bytes → BeginsWithNoCheckpoint bytes → BeginsWithNone starts bytes
unstarted bytes none without (Empty version) rest lawful e = none version rest tt e
unstarted bytes none without (Kept market) rest lawful e = without market (checkpoint_bytes market) rest lawful e

unsound : (bytes : List ℕ) → HasCheckpointMagic bytes → BeginsWithNoCheckpoint bytes → BeginsUnsound bytes
unsound bytes magic none = (unstarted bytes (λ version rest lawful e. other_magics version bytes rest e magic) none, magic)

otherwise : (bytes : List ℕ) → BeginsWithNone journals.magics bytes → (¬ HasCheckpointMagic bytes) → BeginsOtherwise bytes
otherwise bytes none not = (unstarted bytes none (λ market prefix rest is_one e. not (kept_magic market bytes rest (e ∙ ap (λ xs. xs ++ rest) is_one.encoded))), not)

-- a subcommand that judges a history by neither status
module _ (judge : History → Status) (never_bad : (history : History) → answer.BadCheckpoint ≡ judge history → ⊥) (never_other : (history : History) → answer.NotFlow ≡ judge history → ⊥) (Writes : History → List ℕ → Type 0) (limit : ℕ) (bytes text : List ℕ) where
  bad : HistoryTo judge Writes limit bytes answer.BadCheckpoint text ↔ (HasCheckpointMagic (take limit bytes) × BeginsWithNoCheckpoint (take limit bytes) × (text ≡ []))
  bad = (
    λ comes.
        elim comes [
          | inl none ↦ elim none.0 [ inl other ↦ absurd (let no = other.1 in cc) | inr so ↦ (so.0.1, no_checkpoint (take limit bytes) so.0.0, none.1) ]
          | inr file ↦ absurd (never_bad file.0 file.2)
        ],
    λ (magic, none, empty). inl (inr (unsound (take limit bytes) magic none, refl), empty),
  )

  not_flow : HistoryTo judge Writes limit bytes answer.NotFlow text ↔ (BeginsWithNone journals.magics (take limit bytes) × (¬ HasCheckpointMagic (take limit bytes)) × (text ≡ []))
  not_flow = (
    λ comes.
        elim comes [
          | inl none ↦ elim none.0 [ inl other ↦ (no_journal (take limit bytes) other.0.0, other.0.1, none.1) | inr so ↦ absurd (let no = so.1 in cc) ]
          | inr file ↦ absurd (never_other file.0 file.2)
        ],
    λ (none, not, empty). inl (inl (otherwise (take limit bytes) none not, refl), empty),
  )

-- what each of these writes of a history
abbrev explained : History → List ℕ → Type 0
explained history text = Explains history.market history.legal history.following (audit_text history) text

abbrev reported : History → List ℕ → Type 0
reported history text = AreReported (market_of history.start) 1 history.legal history.market text

abbrev checkpointed : History → List ℕ → Type 0
checkpointed history text = text ≡ checkpoint_text history

-- the statuses of a history, and those of a statement, which may also miss the account
audit_bad : (limit : ℕ) (history : History) → answer.BadCheckpoint ≡ history_status limit history → ⊥
audit_bad limit history = not_bad limit history.ending history.legal history.following

audit_other : (limit : ℕ) (history : History) → answer.NotFlow ≡ history_status limit history → ⊥
audit_other limit history = not_other limit history.ending history.legal history.following

bad_there : (account : ℕ) (b : Bool) → answer.BadCheckpoint ≡ (if b then answer.Done else answer.NoAccount account) → ⊥
bad_there account true e = cc
bad_there account false e = cc

other_there : (account : ℕ) (b : Bool) → answer.NotFlow ≡ (if b then answer.Done else answer.NoAccount account) → ⊥
other_there account true e = cc
other_there account false e = cc

statement_bad : (account limit : ℕ) (b : Bool) (ending : Ending) (legal : List (Pair Record Outcome)) (following : List (Record × Record)) → answer.BadCheckpoint ≡ if_whole following ending (if b then answer.Done else answer.NoAccount account) (audit_status limit ending legal following) → ⊥
statement_bad account limit b End legal [] e = bad_there account b e
statement_bad account limit b (Torn n) legal [] e = cc
statement_bad account limit b TooLong legal [] e = cc
statement_bad account limit b ending legal (bad ∷ more) e = cc

statement_other : (account limit : ℕ) (b : Bool) (ending : Ending) (legal : List (Pair Record Outcome)) (following : List (Record × Record)) → answer.NotFlow ≡ if_whole following ending (if b then answer.Done else answer.NoAccount account) (audit_status limit ending legal following) → ⊥
statement_other account limit b End legal [] e = other_there account b e
statement_other account limit b (Torn n) legal [] e = cc
statement_other account limit b TooLong legal [] e = cc
statement_other account limit b ending legal (bad ∷ more) e = cc

pub bad_is_unsound : BadIsUnsound
bad_is_unsound = record {
  audit = record { bad = λ limit. bad (history_status limit) (audit_bad limit) (audit_other limit) audited limit; not_flow = λ limit. not_flow (history_status limit) (audit_bad limit) (audit_other limit) audited limit };
  explain = record { bad = λ limit. bad (history_status limit) (audit_bad limit) (audit_other limit) explained limit; not_flow = λ limit. not_flow (history_status limit) (audit_bad limit) (audit_other limit) explained limit };
  report = record { bad = λ limit. bad (history_status limit) (audit_bad limit) (audit_other limit) reported limit; not_flow = λ limit. not_flow (history_status limit) (audit_bad limit) (audit_other limit) reported limit };
  checkpoint = record { bad = λ limit. bad (history_status limit) (audit_bad limit) (audit_other limit) checkpointed limit; not_flow = λ limit. not_flow (history_status limit) (audit_bad limit) (audit_other limit) checkpointed limit };
  statement = λ account. record {
    bad = λ limit. bad (statement_status account limit) (λ h. statement_bad account limit (is_there h.market account) h.ending h.legal h.following) (λ h. statement_other account limit (is_there h.market account) h.ending h.legal h.following) (States account) limit;
    not_flow = λ limit. not_flow (statement_status account limit) (λ h. statement_bad account limit (is_there h.market account) h.ending h.legal h.following) (λ h. statement_other account limit (is_there h.market account) h.ending h.legal h.following) (States account) limit;
  };
}
