use Rattle.std.proofs.Common.{ap}
use Rattle.std.specs.Prelude.{option_map}
use Rattle.coordinate_search.specs.declared.searching.Unsettled.{Unsettled}
use Rattle.coordinate_search.proofs.InTurn.{next_from, next_before}
use Rattle.coordinate_search.proofs.searching.next_unsettled.Goals as goal

pub returns-in-Some-clause-first : goal.returns-in-Some-clause-first
returns-in-Some-clause-first c =
    next_from c.args.work.now.orders c.args.work.now.prices c.args.next _ _ (rw c.prices.ensures.value at c.unsettled_between.ensures.first) (ap (option_map (λ (u : Unsettled). u.asset)) c.in-Some.is)

pub returns-in-None-clause-first : goal.returns-in-None-clause-first
returns-in-None-clause-first c =
    next_before c.args.work.now.orders c.args.work.now.prices c.args.next _ _ (rw c.prices.ensures.value at c.unsettled_between.ensures.first) (ap (option_map (λ (u : Unsettled). u.asset)) c.in-None.is) c.unsettled_between-in-None.ensures.first
