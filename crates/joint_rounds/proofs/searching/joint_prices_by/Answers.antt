use Rattle.std.proofs.Common.{◌∙◌, length, sym, ap}
use Rattle.excess_bounds.proofs.Kept.{written_back}
use Rattle.joint_rounds.proofs.searching.joint_prices_by.Goals as goal

pub returns-clause-range : goal.returns-clause-range
returns-clause-range g c =
    let is = written_back c.in_ok-prices.prices.len c.search.new.prices c.in_ok-prices.prices.items (c.search.auto.prices ∙ c.deref_mut-5.ensures.len) (ap length (sym c.deref_mut-5.ensures.value) ∙ c.deref_mut-5.ensures.len) in
    rw is c.search.ensures.range

pub returns-clause-near : goal.returns-clause-near
returns-clause-near g c near =
    let is = written_back c.in_ok-prices.prices.len c.search.new.prices c.in_ok-prices.prices.items (c.search.auto.prices ∙ c.deref_mut-5.ensures.len) (ap length (sym c.deref_mut-5.ensures.value) ∙ c.deref_mut-5.ensures.len) in
    rw is (c.search.ensures.near near)
