use Rattle.memory_io.proofs.MemoryCalls.{sync_tells}
use Rattle.memory_io.proofs.memory_disk.MemoryDiskDisk.sync.Goals as goal

pub returns-clause-tells : goal.returns-clause-tells
returns-clause-tells c = sync_tells c.args.self.now c.keep.new.self c.keep.result c.keep.ensures.ok c.keep.ensures.err c.keep.ensures.fails c.keep.ensures.cause
