-- What standard error gains of a line: all of it if no write of it failed, and a prefix in any case.
use Rattle.std.proofs.Common.{ℕ, List, Option, Result, Ok, Err, OnOk, OnErr, IsErr, refl}
use Rattle.flow_io.specs.Faults.{Rose, Blames}
use Rattle.flow_io.specs.Streams.{Grows, GrowsByPrefix}
use Rattle.flow_io.specs.declared.sink.WriteFailed.{WriteFailed}
use Rattle.flow_io.proofs.Growth.{GrowsByPrefix-whole}

-- the line was written, if no write of it failed
pub written : (result : Result (Unit {0}) WriteFailed) (before after : Option (List ℕ)) (line : List ℕ) (faults now : ℕ) → OnOk result (Grows before after line) → Blames (IsErr result) faults now → (¬ Rose faults now) → Grows before after line
written (Ok x) before after line faults now grows cause still = grows
written (Err e) before after line faults now grows cause still = absurd (still (cause.rose refl))

-- a prefix of the line was written in any case
pub cut_line : (result : Result (Unit {0}) WriteFailed) (before after : Option (List ℕ)) (line : List ℕ) → OnOk result (Grows before after line) → OnErr result (GrowsByPrefix before after line) → GrowsByPrefix before after line
cut_line (Ok x) before after line grows prefix = GrowsByPrefix-whole before after line grows
cut_line (Err e) before after line grows prefix = prefix
