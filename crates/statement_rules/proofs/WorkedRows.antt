-- The statements of two accounts that trade with each other, computed: one buys up to 10000 shares at a price from 90 to 110 ticks, at
-- most 1000 a batch, and the other one sells them.
use Rattle.std.proofs.Common.{◌≡◌, ℤ, pos, negsuc, List, [], ◌∷◌, codes, refl, Some, None}
use Rattle.std.specs.Fmt.{digits}
use Rattle.weight_rows.specs.declared.entries.Entry.{Entry}
use Rattle.weight_rows.specs.Rows.{weight_in, portfolio_price}
use Rattle.wire_records.specs.Commands.{Request}
use Rattle.pair_text.specs.Texts.{name_of}
use Rattle.statement_rules.specs.Views.{Event, Adds, Opens, Deposits, Places, Clears}
use Rattle.statement_rules.specs.Holdings.{Holding, nothing, after, after_all}
use Rattle.statement_rules.specs.Statements.{event_lines, end_lines}

abbrev share : ℤ → List Entry
share weight = record { asset = 0; weight = weight } ∷ []

abbrev buys : Request
buys = record { account = 1; low = pos 90; high = pos 110; rate = 1000; cap = 10000; row = share (pos 1) }

abbrev sells : Request
sells = record { account = 2; low = negsuc 109; high = negsuc 89; rate = 1000; cap = 10000; row = share (negsuc 0) }

-- before the batch
abbrev buyer : Holding
buyer = after_all nothing (Adds (codes "AAPL    ") ∷ Opens 1 ∷ Deposits None 1100000 ∷ Places 1 None buys ∷ [])

abbrev bought : Event
bought = Clears 1 (pos 429410830255 ∷ []) (record { order = 1; rate = 500 } ∷ [])

abbrev seller : Holding
seller = after_all nothing (Adds (codes "AAPL    ") ∷ Opens 2 ∷ Deposits (Some 0) 10000 ∷ Places 2 None sells ∷ [])

abbrev sold : Event
sold = Clears 1 (pos 429410830255 ∷ []) (record { order = 2; rate = 500 } ∷ [])

opened : event_lines nothing (Opens 1) ≡ codes "account 1\n"
unfolding name_of weight_in portfolio_price digits
opened = refl

money_deposited : event_lines nothing (Deposits None 1100000) ≡ codes "deposit ticks 1100000\n"
unfolding name_of weight_in portfolio_price digits
money_deposited = refl

units_deposited : event_lines seller (Deposits (Some 0) 10000) ≡ codes "deposit AAPL units 10000\n"
unfolding name_of weight_in portfolio_price digits
units_deposited = refl

buys_placed : event_lines buyer (Places 1 None buys) ≡ codes "order 1 low 90 high 110 rate 1000 cap 10000 AAPL:1\n"
unfolding name_of weight_in portfolio_price digits
buys_placed = refl

sells_placed : event_lines seller (Places 2 None sells) ≡ codes "order 2 low -110 high -90 rate 1000 cap 10000 AAPL:-1\n"
unfolding name_of weight_in portfolio_price digits
sells_placed = refl

buyers_batch : event_lines buyer bought ≡ codes "batch 1 cleared\n  order 1 rate 500 cost 214705415127500\n"
unfolding name_of weight_in portfolio_price digits
buyers_batch = refl

sellers_batch : event_lines seller sold ≡ codes "batch 1 cleared\n  order 2 rate 500 cost -214705415127500\n"
unfolding name_of weight_in portfolio_price digits
sellers_batch = refl

buyers_end : end_lines (after buyer bought) ≡ codes "money 4509758610472500 reserved 4488240824320000\nAAPL units 500 reserved 0\n"
unfolding name_of weight_in portfolio_price digits
buyers_end = refl

sellers_end : end_lines (after seller sold) ≡ codes "money 214705415127500 reserved 0\nAAPL units 9500 reserved 9500\n"
unfolding name_of weight_in portfolio_price digits
sellers_end = refl
