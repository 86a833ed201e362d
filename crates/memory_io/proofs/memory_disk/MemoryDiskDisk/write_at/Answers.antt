use Rattle.memory_io.proofs.MemoryCalls.{write_changes}
use Rattle.memory_io.proofs.memory_disk.MemoryDiskDisk.write_at.Goals as goal

pub returns-clause-changes : goal.returns-clause-changes
returns-clause-changes c = write_changes c.args.self.now c.write.new.self c.args.place c.args.bytes.now c.write.result c.write.ensures.made c.write.ensures.fails c.write.ensures.cause
