use Rattle.std.proofs.Common.{◌≡◌, ℕ, ◌+◌, ◌≤◌, List, ◌++◌, length, take, drop, sym, arith}
use Rattle.std.proofs.lemmas.List.{take_at, take-append-drop, drop-drop, length-take-le, length-drop, take_rest}
use Rattle.std.proofs.lemmas.Grind.{common_steps}
use Rattle.memory_io.proofs.steady.SteadySourceSource.read.Goals as goal

-- what was copied into a buffer, and what is left after it, are the rest
copied : (bytes into copy : List ℕ) (place n : ℕ) → n ≤ length (drop place bytes) → copy ≡ take n (drop place bytes) → drop place bytes ≡ take n (copy ++ drop n into) ++ drop (place + n) bytes
copied bytes into copy place n short e =
    let len : length copy ≡ n = rw e (length-take-le n (drop place bytes) short) in
    rw (take_at copy (drop n into) n len, e, ← drop-drop n place bytes) (sym (take-append-drop n (drop place bytes)))

pub returns-clause-taken : goal.returns-clause-taken
returns-clause-taken c =
    rw (← c.self.view_is)
    (copied c.self.inside.bytes.items c.args.into.now c.copy_from_slice.new.self c.self.inside.place c.min-count.result
    (simp length-drop (omega arith)) (grind (arith, common_steps, take_rest, c.copy_from_slice.ensures.after)))
