use Rattle.std.proofs.Common.{[], ◌∷◌, refl, arith, ap}
use Rattle.memory_io.specs.Disk.{data_of}
use Rattle.memory_io.specs.declared.call_log.Call.TheVariants.{Look}
use Rattle.memory_io.proofs.LogLemmas.{data_of-append, seen-append}
use Rattle.memory_io.proofs.call_log.CallLog.look.Goals as goal

pub invariant_of-self : goal.invariant_of-self
invariant_of-self c =
    let i = c.self.invariant in
    (omega (arith, i.0, ap data_of c.push_reserved.ensures.items, data_of-append c.self.inside.calls.items (Look ∷ [])), omega (arith, i.1, c.push_reserved.ensures.capacity), i.2)

pub returns : goal.returns
returns c =
    rw (← c.self.view_is, c.push_reserved.ensures.items, c.push_reserved.ensures.len, seen-append) refl
