use Rattle.std.proofs.Common.{◌<◌, length, refl, arith, rules}
use Rattle.std.specs.Int.{w32}
use Rattle.wire_fields.proofs.Taken.{few_signed, read_again}
use Rattle.wire_fields.proofs.reading.Cursor.take_i32.Goals as goal

pub returns-in_err-take_array-clause-again : goal.returns-in_err-take_array-clause-again
returns-in_err-take_array-clause-again c =
    let few : length c.args.self.now < 4 = search rules in
    few_signed 4 c.args.self.now c.take_array.new.self c.from_residual.result few

pub returns-clause-again : goal.returns-clause-again
returns-clause-again c =
    read_again 4 w32 (omega arith) refl c.i32_of.result c.in_ok-take_array.field-0.now c.args.self.now c.take_array.new.self (search rules) c.i32_of.ensures c.in_ok-take_array.ensures.found
