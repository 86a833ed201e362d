use Rattle.std.proofs.Common.{refl, ◌∙◌}
use Rattle.ticker_table.proofs.Places.{AreTickers-push, inserted_last}
use Rattle.ticker_table.proofs.table.TickerTable.add_within.Goals as goal
use Rattle.ticker_table.proofs.table.TickerTable.add_within.Goals.{in-Ok, in-Err}

pub returns-in-Some-clause-taken : goal.returns-in-Some-clause-taken
returns-in-Some-clause-taken c number =
    let taken = c.in-Some.ensures.taken number in
    (λ is. taken.0 cc, λ there. let is = taken.1 there in cc)

pub invariant_of-self : goal.invariant_of-self
invariant_of-self c =
    let addable = c.in_default.ensures.none.0 refl in
    let last = inserted_last c.self.inside.tickers.keys c.args.self.now c.args.ticker c.self.view_is addable.absent in
    elim c.match-insert.branch [
      | in-Ok w ↦ rw (w.in-Ok.ensures.keys ∙ last) (AreTickers-push c.args.most c.args.self.now c.args.ticker c.requires.most c.len-number.ensures.tickers addable)
      | in-Err w ↦ rw (w.in-Err.ensures.err ∙ c.self.view_is) c.len-number.ensures.tickers
    ]

pub returns-clause-added : goal.returns-clause-added
returns-clause-added c =
    let addable = c.in_default.ensures.none.0 refl in
    let last = inserted_last c.self.inside.tickers.keys c.args.self.now c.args.ticker c.self.view_is addable.absent in
    elim c.match-insert.branch [
      | in-Ok w ↦ rw w.result-is (c.len-number.ensures.count, w.in-Ok.ensures.keys ∙ last)
      | in-Err w ↦ rw w.result-is tt
    ]

pub returns-clause-tickers : goal.returns-clause-tickers
returns-clause-tickers c = invariant_of-self c
