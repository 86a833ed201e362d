-- The bytes of a disk and of an input of lines lead to some status.
use Rattle.std.proofs.Common.{◌≡◌, ◌⊎◌, ⊎_elim, inl, inr, ℕ, List, length, take, refl, arith}
use Rattle.std.proofs.lemmas.Bool.{cases_lt}
use Rattle.word_driver.specs.Laws.{IsNotDenied}
use Rattle.word_driver.proofs.Denying.{not_denied, follows, one_of}
use Rattle.market_snapshot.specs.Checkpoints.{HasCheckpointMagic}
use Rattle.journal_keeping.specs.Inputs.{BeginsUnsound}
use Rattle.journal_keeping.specs.Openings.{Opening, Foreign, New, Damaged, Rejected, Legal, IsOpening}
use Rattle.journal_keeping.proofs.SomeOpening.{some_opening}
use Rattle.exit_status.specs.declared.status.Status.{Status}
use Rattle.exit_status.specs.declared.status.Status.TheVariants as status
use Rattle.kept_exchange.specs.Statuses.{IsEnd, LinesAskStatus}
use Rattle.kept_exchange.specs.Laws.{LinesHaveSomeStatus}

some_end : (limit : ℕ) (bytes : List ℕ) → (ends : Status) × IsEnd limit bytes ends
some_end limit bytes =
    ⊎_elim (λ more. (status.TooLong limit, inr (more, refl))) (λ few. (status.Done, inl (omega (arith, few), refl))) (cases_lt limit (length bytes))

-- what is before the lines is refused, or they are served to their end
abbrev StartStatus : Type 0 → Status → ℕ → List ℕ → Type 0
StartStatus Bad refused limit bytes = (ends : Status) × ((Bad × (ends ≡ refused)) ⊎ ((¬ Bad) × IsEnd limit bytes ends))

start_status : (Bad : Type 0) (refused : Status) (limit : ℕ) (bytes : List ℕ) → Bad ⊎ (¬ Bad) → StartStatus Bad refused limit bytes
start_status Bad refused limit bytes (inl bad) = (refused, inl (bad, refl))
start_status Bad refused limit bytes (inr good) = let at_end = some_end limit bytes in (at_end.0, inr (good, at_end.1))

some_start : (Bad : Type 0) (refused : Status) (limit : ℕ) (bytes : List ℕ) → IsNotDenied (StartStatus Bad refused limit bytes)
some_start Bad refused limit bytes = follows (λ either. not_denied (start_status Bad refused limit bytes either)) (one_of Bad)

status_of : (limit : ℕ) (held bytes : List ℕ) → (opening : Opening) × IsOpening held opening → IsNotDenied ((ends : Status) × LinesAskStatus limit held bytes ends)
status_of limit held bytes (Foreign, is) = not_denied (status.NotDisk, (Foreign, is, refl))
status_of limit held bytes (Damaged place, is) = not_denied (status.Damaged place, (Damaged place, is, refl))
status_of limit held bytes (Rejected number, is) = not_denied (status.Rejected number, (Rejected number, is, refl))
status_of limit held bytes (New, is) =
    follows (λ (some : StartStatus (BeginsUnsound (take limit bytes)) status.BadCheckpoint limit bytes). not_denied (some.0, (New, is, some.1)))
    (some_start (BeginsUnsound (take limit bytes)) status.BadCheckpoint limit bytes)
status_of limit held bytes (Legal begin pairs market, is) =
    follows (λ (some : StartStatus (HasCheckpointMagic (take limit bytes)) status.NotFlow limit bytes). not_denied (some.0, (Legal begin pairs market, is, some.1)))
    (some_start (HasCheckpointMagic (take limit bytes)) status.NotFlow limit bytes)

pub some_status : LinesHaveSomeStatus
some_status limit held bytes = follows (status_of limit held bytes) (some_opening held)
