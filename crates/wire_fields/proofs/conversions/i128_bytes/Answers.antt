use Rattle.std.proofs.Common.{refl}
use Rattle.std.specs.Int.{w128}
use Rattle.wire_fields.proofs.StdBytes.{written_signed}
use Rattle.wire_fields.proofs.conversions.i128_bytes.Goals as goal

pub returns : goal.returns
returns c =
    written_signed 16 w128 refl c.args.z c.cast_unsigned.result c.u128_bytes.result c.ranges.z c.cast_unsigned.ensures c.u128_bytes.ensures
