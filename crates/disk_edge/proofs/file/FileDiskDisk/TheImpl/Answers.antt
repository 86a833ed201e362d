use Rattle.disk_edge.proofs.Torn.{write_stays, cut_stays}
use Rattle.disk_edge.proofs.Untold.{tells_any, changes_any, no_longer_any}
use Rattle.disk_edge.proofs.file.FileDiskDisk.TheImpl.Goals as goal

pub length-tells : goal.length-tells
length-tells c = tells_any c.args.self.now c.new.self.now c.result _ c.ensures.cause

pub read_at-tells : goal.read_at-tells
read_at-tells c = tells_any c.args.self.now c.new.self.now c.result _ c.ensures.cause

pub write_at-tells : goal.write_at-tells
write_at-tells c = changes_any c.args.self.now c.new.self.now c.result _ _ (write_stays c.args.place _) c.ensures.cause

pub cut-tells : goal.cut-tells
cut-tells c = record { changes = changes_any c.args.self.now c.new.self.now c.result _ _ (cut_stays c.args.to) c.ensures.cause; no_longer = no_longer_any c.args.self.now c.new.self.now }

pub sync-tells : goal.sync-tells
sync-tells c = tells_any c.args.self.now c.new.self.now c.result _ c.ensures.cause
