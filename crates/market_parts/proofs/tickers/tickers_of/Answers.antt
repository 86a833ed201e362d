use Rattle.std.proofs.Common.{◌∙◌, ◌<◌, length, sym, subst, arith, rules}
use Rattle.market_parts.proofs.Making.{element_more, next_is_addable, tickers_more}
use Rattle.std.proofs.lemmas.Option.{slice_get-get_or}
use Rattle.std.proofs.lemmas.List.{take_all}
use Rattle.std.proofs.Common.{[]}
use Rattle.ticker_table.specs.Tickers.{AreTickers, ticker_limit}
use Rattle.ticker_table.specs.Adding.{IsAddable}
use Rattle.market_parts.proofs.Making.{some_of}
use Rattle.market_parts.proofs.tickers.tickers_of.Goals as goal

pub unwrap-requires : goal.unwrap-requires
unwrap-requires g c =
    let tickers = (g.P.MarketParts.parts c.args.parts.now).tickers in
    some_of _ _ (c.ticker.ensures ∙ slice_get-get_or tickers c.loop-asset.asset [] (omega (arith, c.loop-asset-test.true, c.asset_count-asset-end.ensures.count, c.requires.shape.tickers)))

pub returns-in_err-add_ticker-clause-unsound : goal.returns-in_err-add_ticker-clause-unsound
returns-in_err-add_ticker-clause-unsound g c =
    let tickers = (g.P.MarketParts.parts c.args.parts.now).tickers in
    let inside : c.loop-asset.asset < length tickers = omega (arith, c.loop-asset-test.true, c.asset_count-asset-end.ensures.count, c.requires.shape.tickers) in
    let addable : AreTickers tickers → IsAddable ticker_limit c.loop-asset.tickers c.unwrap.result = λ are. rw c.loop-asset.invariant.taken (next_is_addable tickers c.loop-asset.asset c.unwrap.result are inside (sym c.ticker.ensures ∙ c.unwrap.ensures)) in
    search rules

pub loop-asset-preserved : goal.loop-asset-preserved
loop-asset-preserved g c =
    let tickers = (g.P.MarketParts.parts c.args.parts.now).tickers in
    let inside : c.loop-asset.asset < length tickers = omega (arith, c.loop-asset-test.true, c.asset_count-asset-end.ensures.count, c.requires.shape.tickers) in
    let taken = element_more tickers c.loop-asset.tickers c.add_ticker.new.tickers c.loop-asset.asset c.unwrap.result (sym c.ticker.ensures ∙ c.unwrap.ensures) inside c.loop-asset.invariant.taken c.in_ok-add_ticker.ensures.added in
    let before = subst AreTickers (sym c.loop-asset.invariant.taken) c.loop-asset.invariant.valid in
    record {
      taken = taken;
      valid = subst AreTickers (sym c.in_ok-add_ticker.ensures.added ∙ taken) (tickers_more c.loop-asset.tickers c.unwrap.result before c.in_ok-add_ticker.ensures.addable);
    }

pub returns-clause-tickers : goal.returns-clause-tickers
returns-clause-tickers g c =
    let tickers = (g.P.MarketParts.parts c.args.parts.now).tickers in
    c.loop-asset.invariant.taken ∙ take_all c.loop-asset.asset tickers (omega (arith, c.loop-asset-test.false, c.asset_count-asset-end.ensures.count, c.requires.shape.tickers))

pub returns-clause-valid : goal.returns-clause-valid
returns-clause-valid g c =
    let tickers = (g.P.MarketParts.parts c.args.parts.now).tickers in
    subst AreTickers (take_all c.loop-asset.asset tickers (omega (arith, c.loop-asset-test.false, c.asset_count-asset-end.ensures.count, c.requires.shape.tickers))) c.loop-asset.invariant.valid
