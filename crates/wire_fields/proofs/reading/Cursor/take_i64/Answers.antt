use Rattle.std.proofs.Common.{◌<◌, length, refl, arith, rules}
use Rattle.std.specs.Int.{w64}
use Rattle.wire_fields.proofs.Taken.{few_signed, read_again}
use Rattle.wire_fields.proofs.reading.Cursor.take_i64.Goals as goal

pub returns-in_err-take_array-clause-again : goal.returns-in_err-take_array-clause-again
returns-in_err-take_array-clause-again c =
    let few : length c.args.self.now < 8 = search rules in
    few_signed 8 c.args.self.now c.take_array.new.self c.from_residual.result few

pub returns-clause-again : goal.returns-clause-again
returns-clause-again c =
    read_again 8 w64 (omega arith) refl c.i64_of.result c.in_ok-take_array.field-0.now c.args.self.now c.take_array.new.self (search rules) c.i64_of.ensures c.in_ok-take_array.ensures.found
