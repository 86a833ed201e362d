use Rattle.std.proofs.Common.{refl}
use Rattle.std.specs.Int.{w32}
use Rattle.wire_fields.proofs.StdBytes.{read_signed}
use Rattle.wire_fields.proofs.conversions.i32_of.Goals as goal

pub returns : goal.returns
returns c =
    read_signed 4 w32 refl c.cast_signed.result c.u32_of.result c.args.bytes.now c.u32_of.type_inv c.cast_signed.ensures c.u32_of.ensures
