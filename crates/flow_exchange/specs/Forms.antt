-- The forms of the command line.
use Rattle.std.specs.Prelude.{◌≡◌, ℕ, List, [], ◌∷◌, codes}
use Rattle.wire_records.specs.declared.version.Version.TheVariants.{One, Two, Three, Four}
use Rattle.flow_exchange.specs.Sampling.{AskSample}
use Rattle.flow_exchange.specs.Stating.{AskStatement}
use Rattle.flow_exchange.specs.declared.form.Form.{Form}
use Rattle.flow_exchange.specs.declared.form.Form.TheVariants.{Run, Audit, Explain, Report, Encode, Sample, Statement, Checkpoint, Resume}

-- the arguments, as the bytes of each, ask for this form
abbrev pub Asks : List (List ℕ) → Form → Type 0
Asks words Run = words ≡ codes "run" ∷ []
Asks words Audit = words ≡ codes "audit" ∷ []
Asks words Explain = words ≡ codes "explain" ∷ []
Asks words Report = words ≡ codes "report" ∷ []
Asks words (Encode One) = words ≡ codes "encode" ∷ []
Asks words (Encode Two) = words ≡ codes "encode" ∷ codes "2" ∷ []
Asks words (Encode Three) = words ≡ codes "encode" ∷ codes "3" ∷ []
Asks words (Encode Four) = words ≡ codes "encode" ∷ codes "4" ∷ []
Asks words (Sample number orders) = AskSample words number orders
Asks words (Statement number) = AskStatement words number
Asks words Checkpoint = words ≡ codes "checkpoint" ∷ []
Asks words Resume = words ≡ codes "resume" ∷ []
