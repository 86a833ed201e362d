use Rattle.market_parts.proofs.Below.{refuted}
use Rattle.market_parts.proofs.needs.covers_account.Goals as goal

pub returns-then-not-covers_money : goal.returns-then-not-covers_money
returns-then-not-covers_money c = refuted c.covers_money.ensures c.if-not-covers_money.true (λ s. s.money)

pub returns : goal.returns
returns c = (λ t. record { money = c.covers_money.ensures.0 c.if-not-covers_money.false; units = c.covers_units.ensures.0 t }, λ s. c.covers_units.ensures.1 s.units)
