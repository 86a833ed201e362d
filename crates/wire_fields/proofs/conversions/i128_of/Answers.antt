use Rattle.std.proofs.Common.{refl}
use Rattle.std.specs.Int.{w128}
use Rattle.wire_fields.proofs.StdBytes.{read_signed}
use Rattle.wire_fields.proofs.conversions.i128_of.Goals as goal

pub returns : goal.returns
returns c =
    read_signed 16 w128 refl c.cast_signed.result c.u128_of.result c.args.bytes.now c.u128_of.type_inv c.cast_signed.ensures c.u128_of.ensures
