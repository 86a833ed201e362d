-- What a market may have at most, by the version of its files. Proofs cite bounds of these numbers and never their values.
use Rattle.std.specs.Prelude.{◌^◌}
use Rattle.wire_records.specs.declared.version.Version.{Version}
use Rattle.wire_records.specs.declared.version.Version.TheVariants.{One, Two, Three, Four}
use Rattle.wire_records.specs.declared.limits.Limits.{Limits}

-- the limits of versions One to Four
abbrev pub first_limits : Limits
first_limits = record { assets = 64; legs = 16; orders = 16384; batches = 2 ^ 24 }

-- the limits of each version
unfoldable pub limits_of : Version → Limits
limits_of One = first_limits
limits_of Two = first_limits
limits_of Three = first_limits
limits_of Four = first_limits
