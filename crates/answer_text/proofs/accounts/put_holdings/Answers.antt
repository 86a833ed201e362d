use Rattle.std.proofs.Common.{◌∙◌}
use Rattle.pair_text.specs.Texts.{◌then◌}
use Rattle.pair_text.proofs.Joining.{one_more_number}
use Rattle.answer_text.specs.Texts.{comma}
use Rattle.answer_text.specs.Accounts.{holding_member}
use Rattle.answer_text.proofs.accounts.put_holdings.Goals as goal

pub loop-asset-preserved : goal.loop-asset-preserved
loop-asset-preserved c = (
  c.in_ok-put_holding.ensures.before ∙ c.loop-asset.invariant.0,
  one_more_number (λ asset. comma asset then holding_member c.args.tickers.now c.args.accounts.now c.args.book.now.orders c.args.account asset) c.args.out.now.text c.loop-asset.asset _ _ c.loop-asset.invariant.1 c.in_ok-put_holding.ensures.put,
)
