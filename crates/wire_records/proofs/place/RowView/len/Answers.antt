use Rattle.std.proofs.Common.{length, ap, arith}
use Rattle.wire_records.specs.Private.{entries_in}
use Rattle.wire_records.proofs.Entries.{length-entries}
use Rattle.wire_records.proofs.place.RowView.len.Goals as goal

pub returns : goal.returns
returns c =
    let bytes = c.self.inside.bytes.now in
    omega (arith, length-entries bytes (entries_in bytes) c.self.invariant, ap length c.self.view_is)
