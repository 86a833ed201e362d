-- Bounds of the limits of all versions. What has a width cites these and never the limits' values.
use Rattle.std.proofs.Common.{◌≤◌, ◌^◌, lit≤}
use Rattle.wire_records.specs.declared.version.Version.{Version}
use Rattle.wire_records.specs.declared.version.Version.TheVariants.{One}
use Rattle.wire_records.specs.Limits.{limits_of}

pub version_assets : (version : Version) → (limits_of version).assets ≤ 64
unfolding limits_of
version_assets One = lit≤ tt
version_assets version = lit≤ tt

pub version_legs : (version : Version) → (limits_of version).legs ≤ 16
unfolding limits_of
version_legs One = lit≤ tt
version_legs version = lit≤ tt

pub version_orders : (version : Version) → (limits_of version).orders ≤ 2 ^ 14
unfolding limits_of
version_orders One = lit≤ tt
version_orders version = lit≤ tt

pub version_batches : (version : Version) → (limits_of version).batches ≤ 2 ^ 24
unfolding limits_of
version_batches One = lit≤ tt
version_batches version = lit≤ tt
