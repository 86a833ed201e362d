use Rattle.std.proofs.Common.{refl}
use Rattle.std.specs.Int.{w64}
use Rattle.wire_fields.proofs.StdBytes.{written_signed}
use Rattle.wire_fields.proofs.conversions.i64_bytes.Goals as goal

pub returns : goal.returns
returns c =
    written_signed 8 w64 refl c.args.z c.cast_unsigned.result c.u64_bytes.result c.ranges.z c.cast_unsigned.ensures c.u64_bytes.ensures
