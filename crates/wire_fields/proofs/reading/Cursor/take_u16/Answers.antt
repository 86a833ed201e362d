use Rattle.std.proofs.Common.{◌<◌, length, rules}
use Rattle.wire_fields.proofs.Taken.{few_unsigned, same_unsigned}
use Rattle.wire_fields.proofs.reading.Cursor.take_u16.Goals as goal

pub returns-in_err-take_array-clause-again : goal.returns-in_err-take_array-clause-again
returns-in_err-take_array-clause-again c =
    let few : length c.args.self.now < 2 = search rules in
    few_unsigned 2 c.args.self.now c.take_array.new.self c.from_residual.result few

pub returns-clause-again : goal.returns-clause-again
returns-clause-again c =
    same_unsigned 2 c.u16_of.result c.in_ok-take_array.field-0.now c.args.self.now c.take_array.new.self c.u16_of.type_inv c.u16_of.ensures c.in_ok-take_array.ensures.found
