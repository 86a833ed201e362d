use Rattle.std.proofs.Common.{length, ap, arith}
use Rattle.journal_records.specs.Bodies.{fill_encoding, IsFill}
use Rattle.journal_records.specs.Private.{fill_in, fills_in}
use Rattle.journal_records.proofs.Values.{length-encoded}
use Rattle.journal_records.proofs.Digits.{fixed_fills}
use Rattle.journal_records.proofs.fills_view.FillsView.len.Goals as goal

pub returns : goal.returns
returns c =
    let bytes = c.self.inside.bytes.now in
    omega (arith, length-encoded IsFill fill_encoding fill_in 12 fixed_fills bytes (fills_in bytes) c.self.invariant, ap length c.self.view_is)
