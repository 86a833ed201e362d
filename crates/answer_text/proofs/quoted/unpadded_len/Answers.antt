use Rattle.std.proofs.Common.{◌∙◌, sym, ap, take, arith}
use Rattle.answer_text.proofs.Padding.{none_yet, one_more_space, one_more_byte}
use Rattle.answer_text.proofs.quoted.unpadded_len.Goals.{then-ticker-place-ne32, else-ticker-place-ne32}
use Rattle.answer_text.proofs.quoted.unpadded_len.Goals as goal

pub loop-place-init : goal.loop-place-init
loop-place-init c = (omega arith, none_yet)

pub loop-place-preserved : goal.loop-place-preserved
loop-place-preserved c = elim c.if-ticker-place-ne32.branch [
  | then-ticker-place-ne32 w ↦ (omega (arith, w.count-is), ap (λ n. take n c.args.ticker.now) w.count-is ∙ sym (one_more_byte c.args.ticker.now c.loop-place.place c.loop-place-test.true w.if-ticker-place-ne32.true))
  | else-ticker-place-ne32 w ↦ (omega (arith, w.count-is, c.loop-place.invariant.0), ap (λ n. take n c.args.ticker.now) w.count-is ∙ c.loop-place.invariant.1 ∙ sym (one_more_space c.args.ticker.now c.loop-place.place c.loop-place-test.true w.if-ticker-place-ne32.false))
]
