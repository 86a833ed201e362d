use Rattle.std.proofs.Common.{length, ap, arith}
use Rattle.wire_fields.specs.Numbers.{signed, IsSigned}
use Rattle.journal_records.specs.Private.{sign_in, signs_in}
use Rattle.journal_records.proofs.Values.{length-encoded}
use Rattle.journal_records.proofs.Digits.{fixed_signs}
use Rattle.journal_records.proofs.numbers_view.NumbersView.len.Goals as goal

pub returns : goal.returns
returns c =
    let bytes = c.self.inside.bytes.now in
    omega (arith, length-encoded (IsSigned 8) (signed 8) sign_in 8 fixed_signs bytes (signs_in bytes) c.self.invariant, ap length c.self.view_is)
