use Rattle.std.proofs.Common.{arith}
use Rattle.batch_certificate.specs.Verdicts.{IsRateRight}
use Rattle.batch_certificate.proofs.Sums.{one_summed, all_summed}
use Rattle.batch_certificate.proofs.Places.{one_more}
use Rattle.batch_certificate.proofs.Verdicts.{turn_of, rates_count, right_at_turn, wrong_at_turn}
use Rattle.batch_certificate.proofs.check.add_rates.Goals as goal

pub returns-in-None-clause-wrong : goal.returns-in-None-clause-wrong
returns-in-None-clause-wrong g c =
    let turn = turn_of _ (g.P.ClearedParts.clearing c.args.parts.now) _ _ _ c.requires.one_each c.loop-place-test.true c.index-orders-place.is c.rate_at.ensures in
    record {
      inside = c.loop-place-test.true;
      before = c.loop-place.invariant.right;
      wrong = wrong_at_turn _ (g.P.ClearedParts.clearing c.args.parts.now) _ _ _ _ c.requires.prices turn c.in-None.ensures.none;
    }

pub loop-place-preserved : goal.loop-place-preserved
loop-place-preserved g c =
    let turn = turn_of _ (g.P.ClearedParts.clearing c.args.parts.now) _ _ _ c.requires.one_each c.loop-place-test.true c.index-orders-place.is c.rate_at.ensures in
    record {
      summed = one_summed _ _ _ _ _ _ _ _ _ _ _ turn c.loop-place.invariant.summed c.in-Some.ensures.added c.in-Some.ensures.lost c.in-Some.ensures.small c.try_trade.ensures.order.row c.in-Some.ensures.rate c.requires.few;
      right = one_more (IsRateRight c.args.orders.now (g.P.ClearedParts.clearing c.args.parts.now)) c.loop-place.place c.loop-place.invariant.right (right_at_turn _ (g.P.ClearedParts.clearing c.args.parts.now) _ _ _ _ c.requires.prices turn c.in-Some.ensures.rounding);
    }

pub returns-clause-residuals : goal.returns-clause-residuals
returns-clause-residuals g c =
    let all = all_summed _ _ _ _ c.loop-place.place _ _ c.requires.few (rates_count _ (g.P.ClearedParts.clearing c.args.parts.now) c.requires.one_each) (omega (arith, c.loop-place-test.false, c.loop-place.auto.place-end)) c.loop-place.invariant.summed in
    all.residuals_are

pub returns-clause-lost : goal.returns-clause-lost
returns-clause-lost g c =
    let all = all_summed _ _ _ _ c.loop-place.place _ _ c.requires.few (rates_count _ (g.P.ClearedParts.clearing c.args.parts.now) c.requires.one_each) (omega (arith, c.loop-place-test.false, c.loop-place.auto.place-end)) c.loop-place.invariant.summed in
    all.lost_is

pub returns-clause-near : goal.returns-clause-near
returns-clause-near g c =
    let all = all_summed _ _ _ _ c.loop-place.place _ _ c.requires.few (rates_count _ (g.P.ClearedParts.clearing c.args.parts.now) c.requires.one_each) (omega (arith, c.loop-place-test.false, c.loop-place.auto.place-end)) c.loop-place.invariant.summed in
    all.near

pub returns-clause-small : goal.returns-clause-small
returns-clause-small g c =
    let all = all_summed _ _ _ _ c.loop-place.place _ _ c.requires.few (rates_count _ (g.P.ClearedParts.clearing c.args.parts.now) c.requires.one_each) (omega (arith, c.loop-place-test.false, c.loop-place.auto.place-end)) c.loop-place.invariant.summed in
    all.small
