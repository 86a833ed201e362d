use Rattle.std.proofs.Common.{Some, sym, ◌∙◌}
use Rattle.std.proofs.lemmas.Bool.{false≢true}
use Rattle.market_core.proofs.Placing.{refuses_numbers, AfterNumbers, first_of_place, too_late}
use Rattle.market_core.proofs.market.Market.place_refusal.Goals as goal

pub returns-in-Some : goal.returns-in-Some
returns-in-Some c = refuses_numbers c.args.self.now c.args.place.now (AfterNumbers c.args.self.now c.args.last c.args.place.now) (Some c.in-Some.refusal) c.in-Some.ensures.some

pub returns-then-not-is_to_come : goal.returns-then-not-is_to_come
returns-then-not-is_to_come c =
    too_late c.args.self.now c.args.last c.args.place.now c.in-None.ensures.none (λ later. false≢true (sym c.if-not-is_to_come.true ∙ c.is_to_come.ensures.1 later))

pub returns : goal.returns
returns c =
    first_of_place c.args.self.now c.args.last c.args.place.now c.row_refusal.result c.in-None.ensures.none (c.is_to_come.ensures.0 c.if-not-is_to_come.false) c.row_refusal.ensures
