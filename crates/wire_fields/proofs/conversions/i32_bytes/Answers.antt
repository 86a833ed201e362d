use Rattle.std.proofs.Common.{refl}
use Rattle.std.specs.Int.{w32}
use Rattle.wire_fields.proofs.StdBytes.{written_signed}
use Rattle.wire_fields.proofs.conversions.i32_bytes.Goals as goal

pub returns : goal.returns
returns c =
    written_signed 4 w32 refl c.args.z c.cast_unsigned.result c.u32_bytes.result c.ranges.z c.cast_unsigned.ensures c.u32_bytes.ensures
