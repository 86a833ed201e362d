use Rattle.std.proofs.Common.{◌≡◌, ◌∙◌, map, ap, arith}
use Rattle.std.proofs.lemmas.List.{take_all}
use Rattle.market_rules.specs.Market.{cut_price}
use Rattle.market_core.specs.Kept.{market_in}
use Rattle.market_rules.proofs.Starts.{start_within}
use Rattle.market_core.proofs.StartPrices.{cut_more}
use Rattle.market_core.proofs.market.Market.start_prices.Goals as goal

pub loop-price-preserved : goal.loop-price-preserved
loop-price-preserved c =
    let so_far = c.loop-price.invariant in
    let pushed = c.push_reserved.ensures in (
      pushed.items ∙ cut_more c.as_slice-last.result.now c.loop-price.price-index c.loop-price.prices.items _ c.cut_price.result c.loop-price-test.true
          (rw c.as_slice-last.ensures.value c.self.invariant.prices) so_far.0 c.cut_price.ensures.value c.cut_price.ensures.range,
      omega (arith, so_far.1, pushed.len),
      omega (arith, so_far.2, pushed.capacity),
    )

all_cut : (c : goal.After-new) → c.new.result ≡ map cut_price c.self.inside.last_prices
all_cut c =
    let all = take_all c.loop-price.price-index c.as_slice-last.result.now (omega (arith, c.loop-price-test.false)) in
    c.new.ensures ∙ c.loop-price.invariant.0 ∙ ap (map cut_price) (all ∙ c.as_slice-last.ensures.value)

pub returns-clause-value : goal.returns-clause-value
returns-clause-value c = rw (← c.self.view_is) (all_cut c)

pub returns-clause-range : goal.returns-clause-range
returns-clause-range c = rw (all_cut c) (start_within (market_in c.self.inside))
