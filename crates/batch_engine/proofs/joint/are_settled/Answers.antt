use Rattle.std.proofs.Common.{◌∙◌, sym, arith}
use Rattle.std.proofs.lemmas.Bool.{false≢true}
use Rattle.batch_engine.proofs.Tried.{tells_settled, tells_unsettled}
use Rattle.batch_engine.proofs.joint.are_settled.Goals as goal

pub returns-then-not-is_settled : goal.returns-then-not-is_settled
returns-then-not-is_settled c =
    let inside = rw c.prices.ensures.value at c.loop-asset-test.true in
    tells_unsettled c.args.work.now.orders c.args.work.now.prices _ c.loop-asset.asset inside (λ settled. false≢true (sym c.if-not-is_settled.true ∙ c.is_settled.ensures.1 settled))

pub returns : goal.returns
returns c =
    let past = rw c.prices.ensures.value at c.loop-asset-test.false in
    tells_settled c.args.work.now.orders c.args.work.now.prices _ (λ a inside. c.loop-asset.invariant a (omega (arith, inside, past)))
