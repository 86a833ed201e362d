use Rattle.std.proofs.Common.{◌∙◌, true≢false, refl, sym, subst, arith, rules}
use Rattle.ticker_table.specs.Tickers.{AreTickers}
use Rattle.flow_accounts.specs.Balances.{Balances}
use Rattle.market_rules.proofs.VersionLimits.{orders_within}
use Rattle.market_parts.specs.Parts.{AreConsistent}
use Rattle.market_parts.specs.Tests.{IsInShape, most_credit_in, AreConsistentOrders}
use Rattle.market_parts.proofs.Consistency.{some_credit, lawful_balances, numbers_are_consistent, tickers_are_consistent, orders_are_consistent, needs_are_covered, market_is_consistent}
use Rattle.market_parts.proofs.made.read_consistent.Goals as goal

pub returns-in-None-clause-unsound : goal.returns-in-None-clause-unsound
returns-in-None-clause-unsound g c _ s = c.in-None.ensures s.market.version (c.version.ensures.version ∙ s.parts.version)

pub are_consistent_numbers-requires : goal.are_consistent_numbers-requires
are_consistent_numbers-requires g c =
    let each = c.version.ensures.one_each in
    let P = λ (b : Balances). IsInShape b (g.P.MarketParts.parts c.args.parts.now) in
    record { shape = subst P c.version.ensures.balances (record { same = refl; tickers = each.tickers; exchange = each.exchange; prices = each.prices }) }

pub returns-then-not-are_consistent_numbers-clause-unsound : goal.returns-then-not-are_consistent_numbers-clause-unsound
returns-then-not-are_consistent_numbers-clause-unsound g c _ s =
    let p = g.P.MarketParts.parts c.args.parts.now in
    let b = g.P.AccountParts.balances c.args.parts.now in
    let numbers = numbers_are_consistent p b c.in-Some.version c.version.ensures.balances (sym c.version.ensures.version ∙ c.in-Some.ensures) s in
    true≢false (sym (c.are_consistent_numbers.ensures.1 numbers) ∙ c.if-not-are_consistent_numbers.true)

pub tickers_of-requires : goal.tickers_of-requires
tickers_of-requires g c =
    let each = c.version.ensures.one_each in
    let P = λ (b : Balances). IsInShape b (g.P.MarketParts.parts c.args.parts.now) in
    record { shape = subst P c.version.ensures.balances (record { same = refl; tickers = each.tickers; exchange = each.exchange; prices = each.prices }) }

pub returns-in_err-tickers-clause-unsound : goal.returns-in_err-tickers-clause-unsound
returns-in_err-tickers-clause-unsound g c =
    let p = g.P.MarketParts.parts c.args.parts.now in
    let b = g.P.AccountParts.balances c.args.parts.now in
    let gives : AreConsistent p → AreTickers p.tickers = tickers_are_consistent p b c.in-Some.version c.version.ensures.balances (sym c.version.ensures.version ∙ c.in-Some.ensures) in
    search rules

pub returns-in_err-book-clause-unsound : goal.returns-in_err-book-clause-unsound
returns-in_err-book-clause-unsound g c =
    let p = g.P.MarketParts.parts c.args.parts.now in
    let b = g.P.AccountParts.balances c.args.parts.now in
    let gives : AreConsistent p → AreConsistentOrders c.in-Some.version b p = orders_are_consistent p b c.in-Some.version c.version.ensures.balances (sym c.version.ensures.version ∙ c.in-Some.ensures) in
    search rules

pub book_of-requires : goal.book_of-requires
book_of-requires g c = record { few = omega (arith, (c.are_consistent_numbers.ensures.0 c.if-not-are_consistent_numbers.false).counts.few_orders, orders_within c.in-Some.version) }

pub restore-requires : goal.restore-requires
restore-requires g c =
    record { lawful = lawful_balances (most_credit_in c.in-Some.version) (g.P.AccountParts.balances c.args.parts.now) (some_credit c.in-Some.version) (c.are_consistent_numbers.ensures.0 c.if-not-are_consistent_numbers.false).balances }

pub returns-then-not-covers_needs-clause-unsound : goal.returns-then-not-covers_needs-clause-unsound
returns-then-not-covers_needs-clause-unsound g c _ s =
    let p = g.P.MarketParts.parts c.args.parts.now in
    let b = g.P.AccountParts.balances c.args.parts.now in
    let needs = needs_are_covered p b c.in-Some.version c.version.ensures.balances (sym c.version.ensures.version ∙ c.in-Some.ensures) s in
    true≢false (sym (c.covers_needs.ensures.1 (rw (c.in_ok-accounts.ensures.restored, c.in_ok-book.ensures.orders) needs)) ∙ c.if-not-covers_needs.true)

pub returns-clause-made : goal.returns-clause-made
returns-clause-made g c =
    let p = g.P.MarketParts.parts c.args.parts.now in
    let b = g.P.AccountParts.balances c.args.parts.now in
    let is = sym c.version.ensures.version ∙ c.in-Some.ensures in
    let each = c.version.ensures.one_each in
    let P = λ (b : Balances). IsInShape b p in
    let shape : IsInShape b p = subst P c.version.ensures.balances (record { same = refl; tickers = each.tickers; exchange = each.exchange; prices = each.prices }) in
    let numbers = c.are_consistent_numbers.ensures.0 c.if-not-are_consistent_numbers.false in
    let covered = rw (c.in_ok-accounts.ensures.restored, c.in_ok-book.ensures.orders) at (c.covers_needs.ensures.0 c.if-not-covers_needs.false) in
    record {
      version = is;
      consistent = market_is_consistent p b c.in-Some.version c.version.ensures.balances is shape numbers c.in_ok-tickers.ensures.valid c.in_ok-book.ensures.consistent covered;
      next = numbers.counts.next.1;
      tickers = c.in_ok-tickers.ensures.tickers;
      balances = c.in_ok-accounts.ensures.restored ∙ sym c.version.ensures.balances;
      exchange = c.exchange_of.ensures;
      orders = c.in_ok-book.ensures.orders;
    }

pub returns-clause-shape : goal.returns-clause-shape
returns-clause-shape g c =
    let each = c.version.ensures.one_each in
    let P = λ (b : Balances). IsInShape b (g.P.MarketParts.parts c.args.parts.now) in
    subst P c.version.ensures.balances (record { same = refl; tickers = each.tickers; exchange = each.exchange; prices = each.prices })
