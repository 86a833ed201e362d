use Rattle.std.proofs.Common.{refl, ◌∙◌, arith}
use Rattle.memory_io.specs.Disk.{looked}
use Rattle.memory_io.proofs.ConsistentLemmas.{consistent_more}
use Rattle.memory_io.proofs.memory_disk.MemoryDisk.look.Goals as goal

pub invariant_of-self-in-Listed : goal.invariant_of-self-in-Listed
invariant_of-self-in-Listed c =
    consistent_more c.self.inside.first c.self.inside.content c.self.inside.content c.self.inside.log c.look.new.self c.self.inside.calls c.fail-in-Listed.new.self looked c.self.inside.log.used c.self.invariant c.look.ensures (omega arith) (c.fail-in-Listed.ensures.most ∙ c.next.ensures.most) (c.fail-in-Listed.ensures.made ∙ c.next.ensures.made) c.in-Listed.ensures.turn.0 (omega arith) c.self.invariant.within refl refl (omega arith)

pub invariant_of-self-in-Free : goal.invariant_of-self-in-Free
invariant_of-self-in-Free c =
    consistent_more c.self.inside.first c.self.inside.content c.self.inside.content c.self.inside.log c.look-in-Free.new.self c.self.inside.calls c.next.new.self looked c.self.inside.log.used c.self.invariant c.look-in-Free.ensures (omega arith) c.next.ensures.most c.next.ensures.made c.in-Free.ensures.turn.0 (omega arith) c.self.invariant.within refl refl (omega arith)
