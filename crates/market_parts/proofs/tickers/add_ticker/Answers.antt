use Rattle.std.proofs.Common.{◌∙◌, Err, ap}
use Rattle.std.proofs.lemmas.Option.{get_or_from_slice_get, slice_get_within}
use Rattle.market_parts.proofs.tickers.add_ticker.Goals as goal

pub returns-in-Err-Taken-clause-unsound : goal.returns-in-Err-Taken-clause-unsound
returns-in-Err-Taken-clause-unsound c _ addable =
    let number = c.in-Err-Taken.field-0-0 in
    let has = ((c.add.ensures.taken number).0 (c.in-Err-Taken.is ∙ ap Err c.in-Err-Taken.field-0-is)).1 in
    addable.absent (number, slice_get_within c.args.tickers.now number c.args.ticker has, get_or_from_slice_get c.args.tickers.now number c.args.ticker c.args.ticker has)
