use Rattle.std.proofs.Common.{◌∙◌, ◌++◌, ap}
use Rattle.std.specs.List.{flat_map, zip}
use Rattle.std.specs.Int.{w128}
use Rattle.std.proofs.lemmas.Int.{to_z-of_z}
use Rattle.wire_fields.specs.Numbers.{signed, unsigned}
use Rattle.flow_accounts.specs.Balances.{account_of, credit_of}
use Rattle.market_snapshot.specs.Encodings.{units_encoding}
use Rattle.market_snapshot.proofs.Written.{value_of, account_written}
use Rattle.market_snapshot.proofs.balances.put_account.Goals as goal

pub returns-clause-written : goal.returns-clause-written
returns-clause-written c =
    let b = c.args.accounts.now in
    let a = account_of b c.args.account in
    let line = credit_of b c.args.account in
    let money = value_of _ _ _ _ c.money.ensures c.unwrap.ensures in
    let ticks = value_of _ _ _ _ c.money_credit.ensures c.unwrap-2.ensures in
    let prefix = c.put_u64.ensures.written
    ∙ ap (λ z. z ++ unsigned 8 c.unwrap-2.result) (c.put_i128.ensures.written ∙ ap (λ z. c.args.out.now.items ++ signed 16 z) (to_z-of_z w128 c.unwrap.result (record { sfits = c.unwrap.type_inv }))) in
    c.put_units.ensures.written ∙ ap (λ z. z ++ flat_map units_encoding (zip a.units line.units)) prefix
    ∙ account_written c.args.out.now.items a line c.unwrap.result c.unwrap-2.result money ticks
