use Rattle.std.proofs.Common.{is_some, Some, true≢false, sym, ap}
use Rattle.ticker_table.proofs.Places.{Contains-from_number, found_none, found_number, one_number}
use Rattle.ticker_table.proofs.table.TickerTable.find.Goals as goal

pub returns-in_err-number-clause-exact : goal.returns-in_err-number-clause-exact
returns-in_err-number-clause-exact c number at =
    absurd (found_none c.self.inside.tickers.keys c.args.self.now c.args.ticker.now c.self.view_is c.in_err-number.ensures.found (Contains-from_number c.args.self.now number c.args.ticker.now at))

pub returns-in_err-number-clause-none : goal.returns-in_err-number-clause-none
returns-in_err-number-clause-none c =
    (λ _. found_none c.self.inside.tickers.keys c.args.self.now c.args.ticker.now c.self.view_is c.in_err-number.ensures.found, λ _. ap is_some c.from_residual.ensures)

pub returns-clause-found : goal.returns-clause-found
returns-clause-found c =
    found_number c.self.inside.tickers.keys c.args.self.now c.args.ticker.now c.in_ok-number.number c.self.view_is (sym c.in_ok-number.ensures.index)

pub returns-clause-exact : goal.returns-clause-exact
returns-clause-exact c number at =
    let distinct = rw c.self.view_is at c.self.invariant.distinct in
    ap Some (one_number c.args.self.now distinct c.in_ok-number.number number c.args.ticker.now (returns-clause-found c) at)

pub returns-clause-none : goal.returns-clause-none
returns-clause-none c =
    (λ never. absurd (true≢false never), λ absent. absurd (absent (Contains-from_number c.args.self.now c.in_ok-number.number c.args.ticker.now (returns-clause-found c))))
