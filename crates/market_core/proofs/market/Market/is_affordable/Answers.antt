use Rattle.std.proofs.Common.{true≢false, sym, ◌∙◌}
use Rattle.market_core.proofs.Placing.{affordable_is, free_money_is}
use Rattle.market_core.proofs.market.Market.is_affordable.Goals as goal

pub returns-then-is_money_free : goal.returns-then-is_money_free
returns-then-is_money_free c =
    affordable_is c.args.self.now c.args.place.now c.are_units_free.result c.is_money_free.ensures.consistent c.requires.account c.requires.row c.requires.assets
    (c.is_money_free.ensures.value.0 c.if-is_money_free.true)
    (rw (c.row.ensures, c.cap.ensures, c.account.ensures) at c.are_units_free.ensures)

pub returns-else-is_money_free : goal.returns-else-is_money_free
returns-else-is_money_free c = (
  λ yes. absurd (true≢false (sym yes ∙ c.if-is_money_free.false)),
  λ free. c.is_money_free.ensures.value.1 (free_money_is c.args.self.now c.args.place.now free),
)
