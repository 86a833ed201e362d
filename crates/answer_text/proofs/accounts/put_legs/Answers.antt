use Rattle.std.proofs.Common.{◌∙◌}
use Rattle.pair_text.specs.Texts.{◌then◌}
use Rattle.pair_text.proofs.Joining.{one_more_number}
use Rattle.answer_text.specs.Texts.{comma}
use Rattle.answer_text.specs.Answers.{leg_member}
use Rattle.answer_text.proofs.accounts.put_legs.Goals as goal

pub loop-place-preserved : goal.loop-place-preserved
loop-place-preserved c = (
  c.in_ok-put_leg.ensures.before ∙ c.loop-place.invariant.0,
  one_more_number (λ place. comma place then leg_member c.args.tickers.now c.args.row.now place) c.args.out.now.text c.loop-place.place _ _ c.loop-place.invariant.1 c.in_ok-put_leg.ensures.put,
)
