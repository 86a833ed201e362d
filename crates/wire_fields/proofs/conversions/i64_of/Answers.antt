use Rattle.std.proofs.Common.{refl}
use Rattle.std.specs.Int.{w64}
use Rattle.wire_fields.proofs.StdBytes.{read_signed}
use Rattle.wire_fields.proofs.conversions.i64_of.Goals as goal

pub returns : goal.returns
returns c =
    read_signed 8 w64 refl c.cast_signed.result c.u64_of.result c.args.bytes.now c.u64_of.type_inv c.cast_signed.ensures c.u64_of.ensures
