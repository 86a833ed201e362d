use Rattle.std.proofs.Common.{◌≡◌, ◌*◌, ◌∙◌, ◌++◌, length, ap, sym, arith}
use Rattle.flow_accounts.specs.Balances.{Account, Balances, asset_count, account_count}
use Rattle.wire_records.specs.Versions.{number_of}
use Rattle.market_snapshot.specs.Layout.{account_size}
use Rattle.market_snapshot.specs.Encodings.{tickers_encoding, accounts_encoding, totals_encoding, exchange_encoding, batches_encoding}
use Rattle.market_snapshot.proofs.Written.{fields_written}
use Rattle.market_snapshot.proofs.writing.put_fields.Goals as goal

pub returns-clause-written : goal.returns-clause-written
returns-clause-written c =
    let old = c.args.out.now.items in
    let m = c.args.market.now in
    let first = c.put_tickers.ensures.written
    ∙ ap (λ v. old ++ tickers_encoding (number_of v) c.tickers.result.now) c.version.ensures.value
    ∙ ap (λ t. old ++ tickers_encoding (number_of m.version) t) c.tickers.ensures.value in
    let second = c.put_accounts.ensures.written ∙ ap (λ b. c.put_tickers.new.out.items ++ accounts_encoding b) c.accounts.ensures.value ∙ ap (λ z. z ++ accounts_encoding m.balances) first in
    let third = c.put_totals.ensures.written ∙ ap (λ b. c.put_accounts.new.out.items ++ totals_encoding b) c.accounts-2.ensures.value ∙ ap (λ z. z ++ totals_encoding m.balances) second in
    let fourth = c.put_exchange.ensures.written ∙ ap (λ a. c.put_totals.new.out.items ++ exchange_encoding a) c.exchange.ensures.value ∙ ap (λ z. z ++ exchange_encoding m.exchange) third in
    fields_written old c.put_batches.new.out.items m (c.put_batches.ensures.written ∙ ap (λ z. z ++ batches_encoding m.next_order m.batches m.last_prices) fourth)

pub returns-clause-len : goal.returns-clause-len
returns-clause-len c =
    let m = c.args.market.now in
    let each = c.version.ensures.consistent.one_each in
    let n = length m.tickers in
    let tickers : length c.tickers.result.now ≡ n = ap length c.tickers.ensures.value in
    let product : account_size (asset_count c.accounts.result.now) * account_count c.accounts.result.now ≡ account_size n * account_count m.balances =
    ap (λ (b : Balances). account_size (asset_count b) * account_count b) c.accounts.ensures.value ∙ ap (λ k. account_size k * account_count m.balances) (sym each.tickers) in
    let totals : asset_count c.accounts-2.result.now ≡ n = ap (λ (b : Balances). asset_count b) c.accounts-2.ensures.value ∙ sym each.tickers in
    let exchange : length c.exchange.result.now.units ≡ n = ap (λ (a : Account). length a.units) c.exchange.ensures.value ∙ each.exchange ∙ sym each.tickers in
    let prices : length m.last_prices ≡ n = each.prices ∙ sym each.tickers in
    omega (arith, tickers, product, totals, exchange, prices, c.put_tickers.ensures.len, c.put_accounts.ensures.len, c.put_totals.ensures.len, c.put_exchange.ensures.len, c.put_batches.ensures.len)
