use Rattle.std.proofs.Common.{◌∙◌}
use Rattle.pair_text.specs.Texts.{◌then◌}
use Rattle.pair_text.proofs.Joining.{one_more_number}
use Rattle.answer_text.specs.Texts.{comma}
use Rattle.answer_text.specs.Answers.{fill_item}
use Rattle.answer_text.proofs.fills.put_items.Goals as goal

pub loop-place-preserved : goal.loop-place-preserved
loop-place-preserved c = (
  c.in_ok-put_item.ensures.before ∙ c.loop-place.invariant.0,
  one_more_number (λ place. comma place then fill_item c.args.fills.now place) c.args.out.now.text c.loop-place.place _ _ c.loop-place.invariant.1 c.in_ok-put_item.ensures.put,
)
