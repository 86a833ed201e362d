use Rattle.std.proofs.Common.{[], ◌∷◌, refl, arith, ap, length, length-append}
use Rattle.memory_io.specs.Disk.{data_of}
use Rattle.memory_io.specs.declared.call_log.Call.TheVariants.{Write}
use Rattle.memory_io.proofs.LogLemmas.{data_of-append, seen_wrote}
use Rattle.memory_io.proofs.call_log.CallLog.write.Goals as goal

pub invariant_of-self : goal.invariant_of-self
invariant_of-self c =
    let i = c.self.invariant in (
      omega (arith, i.0, ap data_of c.push_reserved.ensures.items, data_of-append c.self.inside.calls.items (Write c.args.place (length c.args.bytes.now) c.args.done ∷ []), ap length c.put_all.ensures.put, length-append c.self.inside.bytes.items c.args.bytes.now),
      omega (arith, i.1, c.push_reserved.ensures.capacity),
      omega (arith, i.2, c.put_all.ensures.capacity),
    )

pub returns : goal.returns
returns c =
    let more = seen_wrote c.self.inside.calls.items c.self.inside.bytes.items c.args.bytes.now c.args.place c.args.done (omega (arith, c.self.invariant.0)) in
    rw (← c.self.view_is, c.push_reserved.ensures.items, c.push_reserved.ensures.len, c.put_all.ensures.put, c.put_all.ensures.len, more) refl
