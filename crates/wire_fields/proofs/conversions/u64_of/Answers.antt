use Rattle.std.proofs.Common.{rules}
use Rattle.wire_fields.proofs.StdBytes.{read_whole}
use Rattle.wire_fields.proofs.conversions.u64_of.Goals as goal

pub returns : goal.returns
returns c =
    read_whole c.args.bytes.now 7 c.from_be_bytes.result (search rules) (search rules) c.from_be_bytes.ensures
