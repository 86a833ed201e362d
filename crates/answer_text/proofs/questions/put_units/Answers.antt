use Rattle.std.proofs.Common.{◌∙◌}
use Rattle.pair_text.specs.Texts.{◌then◌}
use Rattle.pair_text.proofs.Joining.{one_more_number}
use Rattle.answer_text.specs.Texts.{comma}
use Rattle.answer_text.specs.Answers.{units_member}
use Rattle.answer_text.proofs.questions.put_units.Goals as goal

pub loop-asset-preserved : goal.loop-asset-preserved
loop-asset-preserved c = (
  c.in_ok-put_unit.ensures.before ∙ c.loop-asset.invariant.0,
  one_more_number (λ asset. comma asset then units_member c.args.tickers.now c.args.units.now asset) c.args.out.now.text c.loop-asset.asset _ _ c.loop-asset.invariant.1 c.in_ok-put_unit.ensures.put,
)
