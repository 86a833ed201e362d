use Rattle.std.proofs.Common.{◌+◌, refl, arith, Some, None}
use Rattle.flow_accounts.specs.Balances.{IsAccount}
use Rattle.fill_caps.proofs.Needs.{covers_both}
use Rattle.market_parts.specs.Tests.{CoversAccount}
use Rattle.market_parts.proofs.Below.{one_more, each_account, refuted}
use Rattle.market_parts.proofs.needs.covers_needs.Goals as goal

pub loop-place-preserved : goal.loop-place-preserved
loop-place-preserved c = one_more (λ k. CoversAccount c.args.accounts.now c.args.book.now.orders (k + 1)) c.loop-place.place c.loop-place.invariant (c.covers_account.ensures.0 c.if-not-covers_account.false)

pub returns-then-not-covers_account : goal.returns-then-not-covers_account
returns-then-not-covers_account c =
    let there : IsAccount c.args.accounts.now (c.loop-place.place + 1) = (omega arith, omega (arith, c.loop-place-test.true, c.count-place-end.ensures.count)) in
    refuted c.covers_account.ensures c.if-not-covers_account.true (λ all. record { money = all (c.loop-place.place + 1) None there tt; units = λ asset is_asset. all (c.loop-place.place + 1) (Some asset) there is_asset })

pub returns : goal.returns
returns c =
    let each = each_account c.args.accounts.now (λ account. CoversAccount c.args.accounts.now c.args.book.now.orders account) (λ k inside. c.loop-place.invariant k (omega (arith, inside, c.loop-place-test.false, c.count-place-end.ensures.count))) in
    (λ _. covers_both c.args.accounts.now c.args.book.now.orders (λ account there. (each account there).money) (λ account asset there is_asset. (each account there).units asset is_asset), λ _. refl)
