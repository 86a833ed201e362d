-- What a batch that cleared changes in a statement, change by change.
use Rattle.std.proofs.Common.{◌≡◌, ℕ, ◌<◌, true, false, ℤ, pos, ◌+ℤ◌, ◌-ℤ◌, List, [], ◌∷◌, ◌++◌, length, refl, sym, ap, subst, ◌∙◌, arith}
use Rattle.std.specs.Prelude.{codes, decimal}
use Rattle.std.specs.List.{flat_map}
use Rattle.std.proofs.lemmas.List.{append_assoc, append-nil}
use Rattle.std.proofs.lemmas.List.FromFn.{length-map-range_with_len, get_or-map-range_with_len}
use Rattle.list_sums.specs.Sums.{int_sum_by}
use Rattle.flow_accounts.specs.Lawful.{IsUnitBalance}
use Rattle.flow_orders.specs.Outcomes.{Clearing, trades_of, residuals_of}
use Rattle.flow_orders.specs.Residuals.{residual_in}
use Rattle.flow_orders.specs.Trades.{Trade, trades, paid, received, residual, staying, going_on}
use Rattle.statement_rules.specs.Views.{Event, Clears, event_if}
use Rattle.statement_rules.specs.Holdings.{after}
use Rattle.statement_rules.specs.Statements.{cost_line, lines_from}
use Rattle.statement_lines.specs.Lines.{cleared_line}
use Rattle.account_statement.specs.Telling.{Statement, holding_of}
use Rattle.account_statement.specs.Private.{AreAlike, rates_for, fills_for, trades_for, MayClear, Tells}
use Rattle.account_statement.proofs.OwnRates.{trades_found}

-- the amount of an asset in the list of what was brought
pub brought_at : (n : ℕ) (ts : List Trade) (brought : List ℤ) (asset : ℕ) → brought ≡ residuals_of n ts → asset < n → residual_in brought asset ≡ int_sum_by (received asset) ts
brought_at n ts brought asset is inside = ap (λ l. residual_in l asset) is ∙ get_or-map-range_with_len (residual ts) 0 n asset asset (pos 0) inside (omega arith)

-- there is one amount for each asset
pub brought_count : (n : ℕ) (ts : List Trade) (brought : List ℤ) → brought ≡ residuals_of n ts → length brought ≡ n
brought_count n ts brought is = ap length is ∙ length-map-range_with_len (residual ts) 0 n

-- what is brought of an asset fits its balance
pub brought_fits : (c : Clearing) (s one : Statement) (cost : ℤ) (brought : List ℤ) → MayClear (holding_of s) c → brought ≡ residuals_of (length c.prices) (trades_for c.fills s.orders)
    → one ≡ record s { money = s.money -ℤ cost } → (asset : ℕ) → asset < length one.tickers → IsUnitBalance (residual_in one.units asset +ℤ residual_in brought asset)
brought_fits c s one cost brought may is money asset inside =
    let there : asset < length s.tickers = omega (arith, inside, ap (λ (x : Statement). length x.tickers) money) in
    subst IsUnitBalance
    (ap (λ z. residual_in s.units asset +ℤ z) (sym (brought_at (length c.prices) (trades_for c.fills s.orders) brought asset is (omega (arith, there, may.assets))))
    ∙ ap (λ (x : Statement). residual_in x.units asset +ℤ residual_in brought asset) (sym money))
    (may.units asset there)

-- money is taken, units are received, orders are filled
pub settled : (batch : ℕ) (c : Clearing) (s one two new : Statement) (cost : ℤ) (brought : List ℤ) (rates : List ℕ)
    → length s.tickers ≡ length c.prices → cost ≡ int_sum_by (paid c.prices) (trades_for c.fills s.orders) → brought ≡ residuals_of (length c.prices) (trades_for c.fills s.orders)
    → rates ≡ rates_for c.fills s.orders
    → one ≡ record s { money = s.money -ℤ cost } → two ≡ record one { units = two.units }
    → ((asset : ℕ) → asset < length one.tickers → residual_in two.units asset ≡ residual_in one.units asset +ℤ residual_in brought asset)
    → new ≡ record two { orders = going_on batch (staying (trades two.orders rates)) }
    → AreAlike (holding_of new) (after (holding_of s) (Clears batch c.prices (fills_for c.fills s.orders)))
settled batch c s one two new cost brought rates assets cost_is brought_is rates_is money others units orders = record {
  tickers = ap (λ (x : Statement). x.tickers) orders ∙ ap (λ (x : Statement). x.tickers) others ∙ ap (λ (x : Statement). x.tickers) money;
  is_open = ap (λ (x : Statement). x.is_open) orders ∙ ap (λ (x : Statement). x.is_open) others ∙ ap (λ (x : Statement). x.is_open) money;
  money = ap (λ (x : Statement). x.money) orders ∙ ap (λ (x : Statement). x.money) others ∙ ap (λ (x : Statement). x.money) money
      ∙ ap (λ z. s.money -ℤ z) (cost_is ∙ ap (int_sum_by (paid c.prices)) (sym found));
  units = λ asset inside.
      ap (λ (x : Statement). residual_in x.units asset) orders ∙ units asset (omega (arith, inside, ap (λ (x : Statement). length x.tickers) money))
      ∙ ap (λ (x : Statement). residual_in x.units asset +ℤ residual_in brought asset) money
      ∙ ap (λ z. residual_in s.units asset +ℤ z) (brought_at (length c.prices) (trades_for c.fills s.orders) brought asset brought_is (omega (arith, inside, assets)) ∙ ap (int_sum_by (received asset)) (sym found));
  orders = ap (λ (x : Statement). x.orders) orders
      ∙ ap (λ l. going_on batch (staying (trades l rates))) (ap (λ (x : Statement). x.orders) others ∙ ap (λ (x : Statement). x.orders) money)
      ∙ ap (λ l. going_on batch (staying (trades s.orders l))) rates_is
      ∙ ap (λ ts. going_on batch (staying ts)) (sym found);
}
  where
    found : trades_of s.orders (fills_for c.fills s.orders) ≡ trades_for c.fills s.orders
    found = trades_found c.fills s.orders

-- ---- the lines of a batch

pub cleared_text : (s : Statement) (batch : ℕ) (c : Clearing) (old one two : List ℕ) → one ≡ old ++ cleared_line batch → two ≡ one ++ flat_map (cost_line c.prices) (trades_for c.fills s.orders)
    → two ≡ old ++ lines_from (holding_of s) (Clears batch c.prices (fills_for c.fills s.orders) ∷ [])
cleared_text s batch c old one two first second =
    second ∙ ap (λ l. one ++ flat_map (cost_line c.prices) l) (sym (trades_found c.fills s.orders))
    ∙ ap (λ l. l ++ orders) first
    ∙ append_assoc old (cleared_line batch) orders
    ∙ ap (λ l. old ++ l) (append_assoc (codes "batch ") (decimal batch ++ codes " cleared\n") orders
    ∙ ap (λ l. codes "batch " ++ l) (append_assoc (decimal batch) (codes " cleared\n") orders)
    ∙ sym (append-nil (codes "batch " ++ (decimal batch ++ (codes " cleared\n" ++ orders)))))
  where
    orders : List ℕ
    orders = flat_map (cost_line c.prices) (trades_of s.orders (fills_for c.fills s.orders))

-- the statement has taken a batch that cleared
pub told_cleared : (s new : Statement) (batch : ℕ) (c : Clearing) (old one two : List ℕ) → s.is_open ≡ true → new.account ≡ s.account
    → AreAlike (holding_of new) (after (holding_of s) (Clears batch c.prices (fills_for c.fills s.orders)))
    → one ≡ old ++ cleared_line batch → two ≡ one ++ flat_map (cost_line c.prices) (trades_for c.fills s.orders)
    → Tells (event_if s.is_open (Clears batch c.prices (fills_for c.fills s.orders))) s new old two
told_cleared s new batch c old one two open_now account alike first second =
    subst (λ b. Tells (event_if b (Clears batch c.prices (fills_for c.fills s.orders))) s new old two) (sym open_now)
    (record { account = account; after = alike; text = cleared_text s batch c old one two first second })

-- nothing is written of a batch if the account isn't there
pub told_nothing : (s : Statement) (event : Event) (text : List ℕ) → s.is_open ≡ false → Tells (event_if s.is_open event) s s text text
told_nothing s event text closed =
    subst (λ b. Tells (event_if b event) s s text text) (sym closed)
    (record { account = refl; after = record { tickers = refl; is_open = refl; money = refl; units = λ asset inside. refl; orders = refl }; text = sym (append-nil text) })
