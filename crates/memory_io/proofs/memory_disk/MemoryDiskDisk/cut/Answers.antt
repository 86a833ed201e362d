use Rattle.std.proofs.Common.{is_ok, is_err}
use Rattle.memory_io.proofs.MemoryCalls.{cut_changes, cut_no_longer}
use Rattle.memory_io.proofs.memory_disk.MemoryDiskDisk.cut.Goals as goal

pub returns-clause-changes : goal.returns-clause-changes
returns-clause-changes c = cut_changes c.args.self.now c.shorten.new.self c.args.to c.shorten.result c.shorten.ensures.made c.shorten.ensures.fails c.shorten.ensures.cause

pub returns-clause-no_longer : goal.returns-clause-no_longer
returns-clause-no_longer c = cut_no_longer c.args.self.now c.shorten.new.self c.args.to (is_ok c.shorten.result) (is_err c.shorten.result) c.shorten.ensures.made c.requires
