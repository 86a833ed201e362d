use Rattle.std.proofs.Common.{◌<◌, length, refl, arith, rules}
use Rattle.std.specs.Int.{w128}
use Rattle.wire_fields.proofs.Taken.{few_signed, read_again}
use Rattle.wire_fields.proofs.reading.Cursor.take_i128.Goals as goal

pub returns-in_err-take_array-clause-again : goal.returns-in_err-take_array-clause-again
returns-in_err-take_array-clause-again c =
    let few : length c.args.self.now < 16 = search rules in
    few_signed 16 c.args.self.now c.take_array.new.self c.from_residual.result few

pub returns-clause-again : goal.returns-clause-again
returns-clause-again c =
    read_again 16 w128 (omega arith) refl c.i128_of.result c.in_ok-take_array.field-0.now c.args.self.now c.take_array.new.self (search rules) c.i128_of.ensures c.in_ok-take_array.ensures.found
