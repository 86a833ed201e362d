use Rattle.std.proofs.Common.{◌∙◌}
use Rattle.std.proofs.lemmas.Int.{to_z-of_z}
use Rattle.std.specs.Int.{w128}
use Rattle.market_parts.proofs.Below.{refuted, read_value}
use Rattle.market_parts.proofs.accounts.is_consistent_account.Goals as goal

pub returns-then-not-is_consistent_money : goal.returns-then-not-is_consistent_money
returns-then-not-is_consistent_money g c =
    let money = to_z-of_z w128 c.unwrap-money.result (record { sfits = c.unwrap-money.type_inv }) ∙ read_value _ _ _ _ c.money.ensures c.unwrap-money.ensures in
    let ticks = read_value _ _ _ _ c.money_credit.ensures c.unwrap-ticks.ensures in
    refuted c.is_consistent_money.ensures c.if-not-is_consistent_money.true (λ s. rw (money, ticks) s.money)

pub returns : goal.returns
returns g c =
    let money = to_z-of_z w128 c.unwrap-money.result (record { sfits = c.unwrap-money.type_inv }) ∙ read_value _ _ _ _ c.money.ensures c.unwrap-money.ensures in
    let ticks = read_value _ _ _ _ c.money_credit.ensures c.unwrap-ticks.ensures in
    (λ t. record { money = rw (money, ticks) at (c.is_consistent_money.ensures.0 c.if-not-is_consistent_money.false); units = c.has_consistent_units.ensures.0 t }, λ s. c.has_consistent_units.ensures.1 s.units)
