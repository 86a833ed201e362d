use Rattle.market_rules.specs.Step.{NoOutcome}
use Rattle.std.proofs.Common.{[], ◌∷◌, ◌++◌, pos, Some, ap, refl}
use Rattle.flow_accounts.specs.Balances.{add_asset, with_asset}
use Rattle.market_core.specs.Kept.{market_in}
use Rattle.market_core.proofs.Adding.{serves-add_asset, refuses-ticker_fault}
use Rattle.market_core.proofs.market.Market.expected_asset.Goals as goal

pub returns-in-Some : goal.returns-in-Some
returns-in-Some c =
    let m = market_in c.self.inside in
    let is = rw (c.copy_from_slice.ensures.after, c.limits.ensures) at c.in-Some.ensures in
    rw (c.ticker_refusal.ensures.value, ← c.self.view_is) (
      m,
      refuses-ticker_fault NoOutcome m m c.args.ticker.now c.in-Some.fault refl (λ bad. is.bad_ticker.0 (ap Some bad)) (λ number taken. (is.taken number).0 (ap Some taken))
          (λ full. is.full.0 (ap Some full)) c.ticker_refusal.ensures.answered,
    )

pub returns-in-None : goal.returns-in-None
returns-in-None c =
    let m = market_in c.self.inside in
    let is = rw (c.copy_from_slice.ensures.after, c.limits.ensures) at c.in-None.ensures in
    let prices = m.last_prices ++ pos 0 ∷ [] in
    rw (c.len.ensures.count, ← c.self.view_is) (
      record m { tickers = m.tickers ++ c.args.ticker.now ∷ []; balances = add_asset m.balances; exchange = with_asset m.exchange; last_prices = prices },
      serves-add_asset NoOutcome m (add_asset m.balances) (with_asset m.exchange) prices c.args.ticker.now (is.none.0 refl) refl refl refl,
    )
