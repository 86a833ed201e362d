-- What is made of the entries that were read, by how their reading ended.
use Rattle.std.specs.Prelude.{◌+◌, ℕ, List, [], ◌∷◌, length}
use Rattle.wire_records.specs.Records.{Record}
use Rattle.wire_records.specs.Commands.{Pair}
use Rattle.wire_records.specs.Reading.{Ending, End, Torn, TooLong}
use Rattle.flow_orders.specs.Outcomes.{Outcome}
use Rattle.exit_status.specs.declared.status.Status.{Status}
use Rattle.exit_status.specs.declared.status.Status.TheVariants.{Rejected}
use Rattle.exit_status.specs.Statuses.{ending_status}

-- the first value if no entry follows the valid ones and the bytes end with them, and else the second
abbrev pub if_whole : {A : Type 0} → List (Record × Record) → Ending → A → A → A
if_whole (bad ∷ more) ending whole broken = broken
if_whole [] End whole broken = whole
if_whole [] (Torn place) whole broken = broken
if_whole [] TooLong whole broken = broken

-- the status: that of the ending if no entry follows the valid ones, and else the number of the first invalid one, counted from 1
abbrev pub audit_status : ℕ → Ending → List (Pair Record Outcome) → List (Record × Record) → Status
audit_status limit ending legal [] = ending_status limit ending
audit_status limit ending legal (bad ∷ more) = Rejected (length legal + 1)
