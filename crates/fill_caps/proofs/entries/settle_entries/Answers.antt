use Rattle.std.proofs.Common.{arith}
use Rattle.weight_rows.proofs.RowLemmas.{no_entry}
use Rattle.fill_caps.proofs.RowMoves.{units_stay, exchange_units_fit, exchange_money_fits, IsMovedTo-more, IsMovedTo-all}
use Rattle.fill_caps.proofs.entries.settle_entries.Goals as goal

pub settle_entry-requires-clause-units : goal.settle_entry-requires-clause-units
settle_entry-requires-clause-units c =
    units_stay c.args.prices.now c.args.account c.args.rate c.args.entries.now c.args.accounts.now c.loop-entry.accounts c.args.exchange.now c.loop-entry.exchange c.loop-entry.entry-index no_entry c.requires.row c.loop-entry-test.true c.loop-entry.invariant
    (c.requires.units _ (c.requires.assets c.loop-entry.entry-index no_entry c.loop-entry-test.true))

pub settle_entry-requires-clause-exchange_money : goal.settle_entry-requires-clause-exchange_money
settle_entry-requires-clause-exchange_money c =
    exchange_money_fits c.args.prices.now c.args.account c.args.rate c.args.entries.now c.args.accounts.now c.loop-entry.accounts c.args.exchange.now c.loop-entry.exchange c.loop-entry.entry-index no_entry c.requires.row c.loop-entry-test.true c.loop-entry.invariant
    c.requires.rate c.requires.range c.requires.exchange_money

pub settle_entry-requires-clause-exchange_units : goal.settle_entry-requires-clause-exchange_units
settle_entry-requires-clause-exchange_units c =
    exchange_units_fit c.args.prices.now c.args.account c.args.rate c.args.entries.now c.args.accounts.now c.loop-entry.accounts c.args.exchange.now c.loop-entry.exchange c.loop-entry.entry-index no_entry c.requires.row c.loop-entry-test.true c.loop-entry.invariant
    c.requires.rate (c.requires.exchange_units _ (c.requires.assets c.loop-entry.entry-index no_entry c.loop-entry-test.true))

pub loop-entry-preserved : goal.loop-entry-preserved
loop-entry-preserved c =
    IsMovedTo-more c.args.prices.now c.args.account c.args.rate c.args.entries.now c.args.accounts.now c.loop-entry.accounts c.args.exchange.now c.loop-entry.exchange c.loop-entry.entry-index no_entry c.requires.row c.loop-entry-test.true c.loop-entry.invariant
    c.settle_entry.new.accounts c.settle_entry.new.exchange c.requires.account (c.requires.assets c.loop-entry.entry-index no_entry c.loop-entry-test.true) c.requires.exchange_each
    c.settle_entry.ensures.lawful c.settle_entry.ensures.accounts c.settle_entry.ensures.exchange

pub returns : goal.returns
returns c =
    IsMovedTo-all c.args.prices.now c.args.account c.args.rate c.args.entries.now c.args.accounts.now c.loop-entry.accounts c.args.exchange.now c.loop-entry.exchange c.loop-entry.entry-index
    (omega (arith, c.loop-entry-test.false)) c.loop-entry.invariant
