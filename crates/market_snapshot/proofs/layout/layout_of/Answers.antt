use Rattle.std.proofs.Common.{◌≡◌, ◌+◌, ◌*◌, ◌++◌, length, drop, sym, ap, ◌∙◌, arith}
use Rattle.std.proofs.lemmas.Bool.{false≢true}
use Rattle.std.proofs.lemmas.Bool.Decides.{Decides-eqb}
use Rattle.std.proofs.lemmas.List.{take-append-drop}
use Rattle.std.proofs.lemmas.Slice.Eq.{starts_is}
use Rattle.byte_places.specs.Places.{unsigned_at}
use Rattle.flow_accounts.specs.Balances.{account_count}
use Rattle.market_snapshot.specs.Checkpoints.{checkpoint_magic}
use Rattle.market_snapshot.specs.Layout.{account_size}
use Rattle.market_snapshot.proofs.Walking.{prefix}
use Rattle.market_snapshot.proofs.layout.layout_of.Goals as goal

pub returns-then-bytes-lt11-clause-none : goal.returns-then-bytes-lt11-clause-none
returns-then-bytes-lt11-clause-none c = λ p rest fits is.
    let f = prefix p c.args.bytes.now rest fits is in
    absurd (omega (arith, f.eleven, c.if-bytes-lt11.true))

pub returns-then-not-starts_with-clause-none : goal.returns-then-not-starts_with-clause-none
returns-then-not-starts_with-clause-none c = λ p rest fits is.
    let f = prefix p c.args.bytes.now rest fits is in
    let found = (starts_is Decides-eqb c.args.bytes.now checkpoint_magic c.starts_with.result c.starts_with.ensures.value).1 (drop 8 c.args.bytes.now)
    (sym (take-append-drop 8 c.args.bytes.now) ∙ ap (λ xs. xs ++ drop 8 c.args.bytes.now) f.magic) in
    absurd (false≢true (sym c.if-not-starts_with.true ∙ found))

pub returns-then-bytes-count-clause-none : goal.returns-then-bytes-count-clause-none
returns-then-bytes-count-clause-none c = λ p rest fits is.
    let f = prefix p c.args.bytes.now rest fits is in
    absurd (omega (arith, f.some_accounts, f.assets, c.u16_at-assets.ensures, c.from.ensures, c.if-bytes-count.true))

pub returns-then-bytes-totals-clause-none : goal.returns-then-bytes-totals-clause-none
returns-then-bytes-totals-clause-none c = λ p rest fits is.
    let f = prefix p c.args.bytes.now rest fits is in
    let assets : c.u16_at-assets.result ≡ length p.tickers = c.u16_at-assets.ensures ∙ f.assets in
    let place : 11 + 8 * c.from.result ≡ 11 + 8 * length p.tickers = omega (arith, assets, c.from.ensures) in
    let accounts : c.u32_at-accounts.result ≡ account_count p.balances = c.u32_at-accounts.ensures ∙ ap (λ k. unsigned_at 4 k c.args.bytes.now) place ∙ f.accounts in
    let size : c.account_size.result ≡ account_size (length p.tickers) = c.account_size.ensures ∙ ap account_size assets in
    let product : c.account_size.result * c.u32_at-accounts.result ≡ account_size (length p.tickers) * account_count p.balances = ap (λ s. s * c.u32_at-accounts.result) size ∙ ap (λ n. account_size (length p.tickers) * n) accounts in
    absurd (omega (arith, f.whole, product, assets, c.from.ensures, c.from-2.ensures, c.if-bytes-totals.true))
