-- A call does what the form of its arguments does, or nothing.
use Rattle.std.proofs.Common.{◌≡◌, ◌≢◌, ℕ, List, Option, Some, None, refl}
use Rattle.flow_io.specs.Faults.{Rose}
use Rattle.flow_io.specs.Streams.{Grows, GrowsByPrefix}
use Rattle.flow_io.specs.Changes.{Change}
use Rattle.flow_exchange.specs.declared.form.Form.{Form}
use Rattle.flow_exchange.specs.declared.form.Form.TheVariants.{Run, Audit, Explain, Report, Encode, Sample, Statement, Checkpoint, Resume}
use Rattle.exit_status.specs.declared.status.Status.{Status}
use Rattle.exit_status.specs.declared.status.Status.TheVariants as answer
use Rattle.flow_exchange.specs.Forms.{Asks}
use Rattle.exit_status.specs.Statuses.{line_of}
use Rattle.flow_exchange.specs.Program.{ServesCall}
use Rattle.flow_exchange.specs.Allocating.{MayRunOut}
use Rattle.flow_exchange.specs.Running.{KeepsPace}
use Rattle.flow_exchange.specs.Promising.{KeepsAll, Promises}
use Rattle.flow_exchange.specs.Private.{FormServes}
use Rattle.flow_exchange.proofs.Outcomes.{one_form}
use Rattle.flow_exchange.proofs.HistoryOf.{is_kept_from}
use Rattle.flow_exchange.proofs.CanonicallyKept.{keeps_runs, keeps_resumed, keeps_sample}

-- the arguments are a form, which was done
module _ (limit : ℕ) (words : List (List ℕ)) (form : Form) (status : Status) (source out : Change) (asks : Asks words form) where
  pub serves_form : (notes : Change) → status ≢ answer.Usage → FormServes form limit status source out → ((¬ Rose notes.faults notes.faults_after) → Grows notes.before notes.after (line_of status)) → GrowsByPrefix notes.before notes.after (line_of status) → ServesCall limit words status source out notes
  serves_form notes asked serves noted cut = record {
    usage = (λ e. absurd (asked e), λ none. absurd (none form asks));
    does = λ other also. rw (one_form words other form also asks) serves.does;
    noted = noted;
    cut = cut;
  }

  pub wants_form : FormServes form limit status source out → (other : Form) → Asks words other → MayRunOut other limit status source out
  wants_form serves other also = rw (one_form words other form also asks) serves.allocates

  pub paced_form : (form ≡ Run → KeepsPace limit status source out) → Asks words Run → KeepsPace limit status source out
  paced_form paced also = paced (one_form words form Run asks also)

-- the arguments are no form
pub serves_none : (limit : ℕ) (words : List (List ℕ)) (source out notes : Change) → ((form : Form) → ¬ Asks words form) → ((¬ Rose notes.faults notes.faults_after) → Grows notes.before notes.after (line_of answer.Usage)) → GrowsByPrefix notes.before notes.after (line_of answer.Usage) → ServesCall limit words answer.Usage source out notes
serves_none limit words source out notes none noted cut = record {
  usage = (λ e. none, λ not. refl);
  does = λ form asks. absurd (none form asks);
  noted = noted;
  cut = cut;
}

-- the promises hold of each history, whichever form reads it
keeps_all : (limit : ℕ) (told : Option (List ℕ)) → KeepsAll limit told
keeps_all limit None = tt
keeps_all limit (Some bytes) = λ history is. is_kept_from limit bytes history is

pub promised : (form : Form) (limit : ℕ) (told : Option (List ℕ)) → Promises form limit told
promised Run limit told = keeps_runs limit told
promised Audit limit told = keeps_all limit told
promised Explain limit told = keeps_all limit told
promised Report limit told = keeps_all limit told
promised (Encode version) limit told = tt
promised (Sample number orders) limit told = keeps_sample number orders
promised (Statement number) limit told = keeps_all limit told
promised Checkpoint limit told = keeps_all limit told
promised Resume limit told = keeps_resumed limit told
