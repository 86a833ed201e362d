use Rattle.std.proofs.Common.{◌∙◌}
use Rattle.batch_report.specs.Reports.{price_line}
use Rattle.pair_text.proofs.Joining.{one_more_number}
use Rattle.batch_report.proofs.batches.put_prices.Goals as goal

pub loop-asset-preserved : goal.loop-asset-preserved
loop-asset-preserved c = (
  c.in_ok-put_price.ensures.before ∙ c.loop-asset.invariant.0,
  one_more_number (price_line c.args.tickers.now c.args.view.now.clearing) c.args.out.now.text c.loop-asset.asset _ _ c.loop-asset.invariant.1 c.in_ok-put_price.ensures.put,
)
