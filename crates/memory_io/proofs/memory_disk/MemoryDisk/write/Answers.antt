use Rattle.std.proofs.Common.{refl, ◌∙◌, arith, ap, length, true, false}
use Rattle.memory_io.specs.Disk.{wrote}
use Rattle.memory_io.proofs.ConsistentLemmas.{consistent_more, length-written}
use Rattle.memory_io.proofs.memory_disk.MemoryDisk.write.Goals as goal

pub invariant_of-self-in-Listed : goal.invariant_of-self-in-Listed
invariant_of-self-in-Listed c =
    consistent_more c.self.inside.first c.self.inside.content c.self.inside.content c.self.inside.log c.write.new.self c.self.inside.calls c.fail-in-Listed.new.self (wrote c.args.place c.args.bytes.now false) _ c.self.invariant c.write.ensures (omega arith) (c.fail-in-Listed.ensures.most ∙ c.next.ensures.most) (c.fail-in-Listed.ensures.made ∙ c.next.ensures.made) c.in-Listed.ensures.turn.0 (omega arith) (omega (arith, c.spare.ensures, c.self.invariant.within)) refl refl (omega arith)

pub invariant_of-self-in-Free : goal.invariant_of-self-in-Free
invariant_of-self-in-Free c =
    consistent_more c.self.inside.first c.self.inside.content c.overwrite.new.out c.self.inside.log c.write-in-Free.new.self c.self.inside.calls c.next.new.self (wrote c.args.place c.args.bytes.now true) _ c.self.invariant c.write-in-Free.ensures (omega arith) c.next.ensures.most c.next.ensures.made c.in-Free.ensures.turn.0 (omega arith) (omega (arith, c.spare.ensures, c.self.invariant.within)) c.overwrite.ensures.written c.overwrite.ensures.capacity (omega (arith, ap length c.overwrite.ensures.written, length-written c.args.place c.args.bytes.now c.self.inside.content.items))
