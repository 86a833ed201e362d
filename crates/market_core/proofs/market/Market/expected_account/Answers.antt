use Rattle.market_rules.specs.Step.{NoOutcome}
use Rattle.std.proofs.Common.{◌≡◌, ◌<◌, true≢false, refl, sym, ◌∙◌, arith}
use Rattle.flow_accounts.specs.Balances.{account_count, open_account}
use Rattle.flow_accounts.specs.Lawful.{most_accounts}
use Rattle.market_core.specs.Kept.{market_in}
use Rattle.market_core.proofs.Adding.{serves-open_account, refuses-account}
use Rattle.market_core.proofs.market.Market.expected_account.Goals as goal

pub returns-then-is_full : goal.returns-then-is_full
returns-then-is_full c =
    let m = market_in c.self.inside in
    rw (c.refusal_of.ensures.value, ← c.self.view_is) (m, refuses-account NoOutcome m m (c.is_full.ensures.full.0 c.if-is_full.true) refl)

pub returns : goal.returns
returns c =
    let m = market_in c.self.inside in
    let lawful = c.is_full.ensures.lawful in
    let few : account_count m.balances < most_accounts = omega (arith, lawful.few_accounts, λ (full : account_count m.balances ≡ most_accounts). true≢false (sym (c.is_full.ensures.full.1 full) ∙ c.if-is_full.false)) in
    rw (c.count.ensures.count, ← c.self.view_is) (record m { balances = open_account m.balances }, serves-open_account NoOutcome m (open_account m.balances) few refl)
