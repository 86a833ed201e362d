use Rattle.std.proofs.Common.{◌+◌, length, arith}
use Rattle.journal_disk.proofs.Lengths.{reach_wider, reach_write, append_reaches}
use Rattle.journal_disk.proofs.Appending.{commit_within, first_fits, cut_short, both_steps, added}
use Rattle.journal_disk.proofs.appender.append_stored.Goals as goal

pub write_synced-requires : goal.write_synced-requires
write_synced-requires g c =
    first_fits (g.D.Disk.state c.args.disk.now).content c.args.place (length c.args.bytes.now) c.requires.room (omega (arith, c.requires.short))
    (commit_within c.args.place (g.D.Disk.state c.args.disk.now) c.requires.kept)

pub returns-in_err-write_synced-clause-moments : goal.returns-in_err-write_synced-clause-moments
returns-in_err-write_synced-clause-moments g c = λ head pairs more keeps each stored.
    cut_short head pairs more c.args.place c.args.bytes.now (g.D.Disk.state c.args.disk.now) (g.D.Disk.state c.write_synced.new.disk) keeps each stored c.requires.short c.write_synced.ensures.moments

pub returns-in_err-set_commit-clause-moments : goal.returns-in_err-set_commit-clause-moments
returns-in_err-set_commit-clause-moments g c = λ head pairs more keeps each stored.
    both_steps head pairs more c.args.place c.args.bytes.now (g.D.Disk.state c.args.disk.now) (g.D.Disk.state c.write_synced.new.disk) keeps each stored c.requires.short
    (g.D.Disk.state c.set_commit.new.disk) c.in_ok-write_synced.ensures.written c.in_ok-write_synced.ensures.kept c.write_synced.ensures.moments c.set_commit.ensures.moments

pub returns-clause-moments : goal.returns-clause-moments
returns-clause-moments g c = λ head pairs more keeps each stored.
    both_steps head pairs more c.args.place c.args.bytes.now (g.D.Disk.state c.args.disk.now) (g.D.Disk.state c.write_synced.new.disk) keeps each stored c.requires.short
    (g.D.Disk.state c.set_commit.new.disk) c.in_ok-write_synced.ensures.written c.in_ok-write_synced.ensures.kept c.write_synced.ensures.moments c.set_commit.ensures.moments

pub returns-clause-kept : goal.returns-clause-kept
returns-clause-kept g c = λ head pairs more keeps each stored.
    added head pairs more c.args.place c.args.bytes.now (g.D.Disk.state c.args.disk.now) (g.D.Disk.state c.write_synced.new.disk) keeps each stored c.requires.short
    (g.D.Disk.state c.set_commit.new.disk) c.in_ok-write_synced.ensures.written c.in_ok-set_commit.ensures.written c.in_ok-set_commit.ensures.kept

pub returns-in_err-write_synced-clause-lengths : goal.returns-in_err-write_synced-clause-lengths
returns-in_err-write_synced-clause-lengths g c =
    reach_wider _ _ (g.D.Disk.state c.args.disk.now) (g.D.Disk.state c.write_synced.new.disk) (omega arith)
    (reach_write (c.args.place + 1) (length c.args.bytes.now) (g.D.Disk.state c.args.disk.now) (g.D.Disk.state c.write_synced.new.disk) c.write_synced.ensures.moments)

pub returns-in_err-set_commit-clause-lengths : goal.returns-in_err-set_commit-clause-lengths
returns-in_err-set_commit-clause-lengths g c =
    append_reaches c.args.place (length c.args.bytes.now) (g.D.Disk.state c.args.disk.now) (g.D.Disk.state c.write_synced.new.disk) (g.D.Disk.state c.set_commit.new.disk)
    (g.met.D.Disk.is_disk c.write_synced.new.disk) c.write_synced.ensures.moments c.set_commit.ensures.moments

pub returns-clause-lengths : goal.returns-clause-lengths
returns-clause-lengths g c =
    append_reaches c.args.place (length c.args.bytes.now) (g.D.Disk.state c.args.disk.now) (g.D.Disk.state c.write_synced.new.disk) (g.D.Disk.state c.set_commit.new.disk)
    (g.met.D.Disk.is_disk c.write_synced.new.disk) c.write_synced.ensures.moments c.set_commit.ensures.moments
