use Rattle.std.proofs.Common.{◌≡◌, ◌++◌, take}
use Rattle.std.specs.List.{flat_map}
use Rattle.batch_report.specs.Reports.{rate_line}
use Rattle.batch_report.proofs.batches.put_rates.Given as goal

abbrev pub invariant-loop-place : goal.invariant-loop-place
invariant-loop-place l = (l.out.before ≡ l.fn.out.before) × (l.out.text ≡ l.fn.out.text ++ flat_map rate_line (take l.place l.view.clearing.fills))
