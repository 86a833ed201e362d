use Rattle.std.proofs.Common.{◌≡◌, ◌++◌}
use Rattle.std.specs.List.{flat_map, range_with_len}
use Rattle.batch_report.specs.Reports.{price_line}
use Rattle.batch_report.proofs.batches.put_prices.Given as goal

abbrev pub invariant-loop-asset : goal.invariant-loop-asset
invariant-loop-asset l = (l.out.before ≡ l.fn.out.before) × (l.out.text ≡ l.fn.out.text ++ flat_map (price_line l.tickers l.view.clearing) (range_with_len 0 l.asset))
