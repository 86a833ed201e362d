-- The status of each ending of a subcommand.
use Rattle.std.specs.Prelude.{ℕ, Ok, Err}
use Rattle.word_driver.specs.declared.fault.Fault.TheVariants as word
use Rattle.word_driver.specs.Ended.{Ended}
use Rattle.encode_word.specs.declared.stop.EncodeStop.{EncodeStop}
use Rattle.encode_word.specs.declared.stop.EncodeStop.TheVariants as stop
use Rattle.session_resume.specs.declared.first.Unfit.{Unfit}
use Rattle.session_resume.specs.declared.first.Unfit.TheVariants.{Illegal, NoCheckpoint}
use Rattle.exit_status.specs.declared.status.Status.{Status}
use Rattle.exit_status.specs.declared.status.Status.TheVariants as status

-- the status of how a subcommand ended, with `own` as the status of its own reason to stop
abbrev pub ended_status : {B : Type 0} → ℕ → (B → Status) → Ended B → Status
ended_status limit own (Ok done) = status.Done
ended_status limit own (Err word.Read) = status.ReadFault
ended_status limit own (Err word.Write) = status.WriteFault
ended_status limit own (Err word.Memory) = status.NoMemory
ended_status limit own (Err word.NotFlow) = status.NotFlow
ended_status limit own (Err (word.Torn place)) = status.Torn place
ended_status limit own (Err word.TooLong) = status.TooLong limit
ended_status limit own (Err (word.Stopped why)) = own why

-- of an encoding, which stops at the first line that is no command, by its number, or if there is no checkpoint of a consistent market of
-- the version
abbrev pub unencoded : EncodeStop → Status
unencoded (stop.NoCommand number) = status.BadText number
unencoded stop.NoCheckpoint = status.BadCheckpoint

-- the status of a resumption that stopped: at the first invalid entry, with its number, or at a bad checkpoint
abbrev pub unfit_status : Unfit → Status
unfit_status (Illegal number) = status.Rejected number
unfit_status NoCheckpoint = status.BadCheckpoint
