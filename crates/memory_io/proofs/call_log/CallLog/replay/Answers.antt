use Rattle.std.proofs.Common.{refl, arith}
use Rattle.memory_io.proofs.LogLemmas.{data_of-take, seen-take}
use Rattle.memory_io.proofs.call_log.CallLog.replay.Goals as goal

pub replay_all-requires-clause-data : goal.replay_all-requires-clause-data
replay_all-requires-clause-data c =
    rw c.deref.ensures.value (omega (arith, data_of-take c.args.count c.self.inside.calls.items, c.self.invariant.0, c.deref-2.ensures.len))

pub returns : goal.returns
returns c = rw (c.replay_all.ensures.image, c.deref.ensures.value, c.deref-2.ensures.value, ← c.self.view_is, seen-take) refl
