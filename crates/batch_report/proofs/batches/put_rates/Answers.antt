use Rattle.std.proofs.Common.{◌∙◌, arith}
use Rattle.batch_report.specs.Reports.{rate_line}
use Rattle.pair_text.proofs.Joining.{one_more, all_done}
use Rattle.batch_report.proofs.batches.put_rates.Goals as goal

pub loop-place-preserved : goal.loop-place-preserved
loop-place-preserved c = (
  c.in_ok-put_rate.ensures.before ∙ c.loop-place.invariant.0,
  one_more rate_line c.args.out.now.text c.args.view.now.clearing.fills c.loop-place.place (record { order = 0; rate = 0 }) _ _ (rw c.rate_count-place-end.ensures at c.loop-place-test.true) c.loop-place.invariant.1 c.in_ok-put_rate.ensures.put,
)

pub returns-clause-put : goal.returns-clause-put
returns-clause-put c =
    all_done rate_line c.args.out.now.text c.args.view.now.clearing.fills c.loop-place.place _ (omega (arith, c.loop-place-test.false, c.rate_count-place-end.ensures)) c.loop-place.invariant.1
