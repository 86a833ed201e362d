use Rattle.std.proofs.Common.{◌∙◌, ap}
use Rattle.std.specs.List.{starts_with}
use Rattle.std.proofs.Math.Dec.{eqb}
use Rattle.wire_records.proofs.MagicFound.{version_found, no_digit, no_magic, none_found}
use Rattle.journal_disk.specs.Entries.{disk_magic_of}
use Rattle.journal_disk.proofs.Entries.{disk_magics_told}
use Rattle.journal_disk.proofs.magic.disk_version.Goals as goal

pub returns-in_err-version-clause-none : goal.returns-in_err-version-clause-none
returns-in_err-version-clause-none c = rw c.from_residual.ensures (no_digit disk_magic_of disk_magics_told c.args.bytes.now c.in_err-version.ensures)

pub returns-in_err-version-clause-exact : goal.returns-in_err-version-clause-exact
returns-in_err-version-clause-exact c = rw c.from_residual.ensures (none_found disk_magic_of disk_magics_told c.args.bytes.now (no_digit disk_magic_of disk_magics_told c.args.bytes.now c.in_err-version.ensures))

pub returns-then-starts_with-clause-exact : goal.returns-then-starts_with-clause-exact
returns-then-starts_with-clause-exact c =
    version_found disk_magic_of disk_magics_told c.args.bytes.now c.in_ok-version.version c.starts_with.result (c.starts_with.ensures.value ∙ ap (starts_with eqb c.args.bytes.now) c.disk_magic.ensures) c.if-starts_with.true

pub returns-else-starts_with-clause-none : goal.returns-else-starts_with-clause-none
returns-else-starts_with-clause-none c =
    no_magic disk_magic_of disk_magics_told c.args.bytes.now c.in_ok-version.version c.starts_with.result c.in_ok-version.ensures (c.starts_with.ensures.value ∙ ap (starts_with eqb c.args.bytes.now) c.disk_magic.ensures) c.if-starts_with.false

pub returns-else-starts_with-clause-exact : goal.returns-else-starts_with-clause-exact
returns-else-starts_with-clause-exact c =
    none_found disk_magic_of disk_magics_told c.args.bytes.now
    (no_magic disk_magic_of disk_magics_told c.args.bytes.now c.in_ok-version.version c.starts_with.result c.in_ok-version.ensures (c.starts_with.ensures.value ∙ ap (starts_with eqb c.args.bytes.now) c.disk_magic.ensures) c.if-starts_with.false)
