use Rattle.disk_edge.proofs.Moments.{then_more}
use Rattle.journal_disk.proofs.Opening.{cut_new, looks_new}
use Rattle.journal_disk.proofs.calls.clear.Goals as goal

pub returns-in_err-cut_synced-clause-moments : goal.returns-in_err-cut_synced-clause-moments
returns-in_err-cut_synced-clause-moments g c = λ bytes held is_new only.
    let looks = c.length_of.ensures.looks in
    then_more (g.D.Disk.state c.args.disk.now) (g.D.Disk.state c.length_of.new.disk) (g.D.Disk.state c.cut_synced.new.disk) _ (looks_new (g.D.Disk.state c.args.disk.now) (g.D.Disk.state c.length_of.new.disk) bytes only is_new looks)
    (cut_new (g.D.Disk.state c.length_of.new.disk) (g.D.Disk.state c.cut_synced.new.disk) bytes (λ image left. only image (looks.images image left)) is_new c.cut_synced.ensures.moments)

pub returns-in_ok-cut_synced-clause-moments : goal.returns-in_ok-cut_synced-clause-moments
returns-in_ok-cut_synced-clause-moments g c = λ bytes held is_new only.
    let looks = c.length_of.ensures.looks in
    then_more (g.D.Disk.state c.args.disk.now) (g.D.Disk.state c.length_of.new.disk) (g.D.Disk.state c.cut_synced.new.disk) _ (looks_new (g.D.Disk.state c.args.disk.now) (g.D.Disk.state c.length_of.new.disk) bytes only is_new looks)
    (cut_new (g.D.Disk.state c.length_of.new.disk) (g.D.Disk.state c.cut_synced.new.disk) bytes (λ image left. only image (looks.images image left)) is_new c.cut_synced.ensures.moments)
