use Rattle.journal_disk.proofs.Opening.{magic_of_prefix, commit_of_prefix}
use Rattle.journal_disk.proofs.calls.prefix_of.Goals as goal

pub returns-clause-magic : goal.returns-clause-magic
returns-clause-magic g c =
    magic_of_prefix (g.D.Disk.state c.args.disk.now).content _ c.disk_version.result c.requires c.in_ok-read_from.ensures.read c.disk_version.ensures.exact c.disk_version.ensures.none

pub returns-clause-commit : goal.returns-clause-commit
returns-clause-commit g c = commit_of_prefix (g.D.Disk.state c.args.disk.now).content _ c.in_ok-read_from.ensures.read
