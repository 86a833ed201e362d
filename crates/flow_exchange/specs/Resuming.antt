-- What `flow resume` makes of the bytes of its source.
use Rattle.std.specs.Prelude.{◌≡◌, ◌<◌, ℕ, List, length, take}
use Rattle.word_driver.specs.Ended.{Ended}
use Rattle.session_resume.specs.declared.first.Unfit.{Unfit}
use Rattle.session_resume.specs.Resuming.{Resumes}
use Rattle.exit_status.specs.declared.status.Status.{Status}
use Rattle.flow_exchange.specs.Statuses.{ended_status, unfit_status}

-- the first `limit` bytes result in this status and this text
abbrev pub ResumesTo : ℕ → List ℕ → Status → List ℕ → Type 0
ResumesTo limit bytes status text =
    (ended : Ended Unfit) × Resumes (limit < length bytes) (take limit bytes) ended text × (status ≡ ended_status limit unfit_status ended)
