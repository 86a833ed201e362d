-- Laws of the arguments and outcomes on which the program's own promise rests. The other laws are in `flow_laws`.
use Rattle.std.specs.Prelude.{◌≡◌, ◌≢◌, ℕ, List, IfSome}
use Rattle.flow_io.specs.Faults.{Rose}
use Rattle.flow_io.specs.Changes.{Change}
use Rattle.flow_exchange.specs.declared.form.Form.{Form}
use Rattle.exit_status.specs.declared.status.Status.{Status}
use Rattle.exit_status.specs.declared.status.Status.TheVariants.{NoMemory}
use Rattle.flow_exchange.specs.Forms.{Asks}
use Rattle.flow_exchange.specs.Program.{ComesTo, ComesToIfMore, Determines, Does}

-- arguments ask for at most one form
abbrev pub OneForm : Type 0
OneForm = (words : List (List ℕ)) (f g : Form) → Asks words f → Asks words g → f ≡ g

-- bytes result in at most one status and one text
abbrev pub OneEnd : Type 0
OneEnd =
    (form : Form) (limit : ℕ) (bytes : List ℕ) (s t : Status) (x y : List ℕ) → ComesTo form limit bytes s x → ComesTo form limit bytes t y → (s ≡ t) × (x ≡ y)

-- bytes result in at most one text if more follow, so after a failed read those that were taken determine the output
abbrev pub OneIfMore : Type 0
OneIfMore = (form : Form) (bytes x y : List ℕ) → ComesToIfMore form bytes x → ComesToIfMore form bytes y → x ≡ y

-- if no count of faults rose and memory didn't run out, the bytes determine the status and what was written
abbrev pub FaultlessIsDetermined : Type 0
FaultlessIsDetermined = (form : Form) (limit : ℕ) (status : Status) (source out : Change) → Does form limit status source out
    → (¬ Rose source.faults source.faults_after) → (¬ Rose out.faults out.faults_after) → status ≢ NoMemory
    → IfSome source.before (λ bytes. Determines form limit bytes status out.before out.after)
