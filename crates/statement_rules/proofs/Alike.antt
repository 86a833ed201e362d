-- Holdings that agree with one market give the same text.
use Rattle.std.proofs.Common.{◌≡◌, ℕ, zero, suc, ◌+◌, ◌<◌, List, [], ◌∷◌, ◌++◌, length, refl, sym, ap, ◌∙◌, arith, Option, Some, None, ℤ, neg_ℤ}
use Rattle.std.specs.List.{flat_map, range_with_len, sum_by}
use Rattle.std.specs.Prelude.{codes, decimal}
use Rattle.std.specs.Fmt.{signed_decimal}
use Rattle.flow_orders.specs.Orders.{money_need, unit_need}
use Rattle.order_book.specs.Book.{without}
use Rattle.flow_orders.specs.Outcomes.{trades_of}
use Rattle.flow_orders.specs.Trades.{staying, going_on}
use Rattle.flow_accounts.specs.Balances.{IsAsset, value_of}
use Rattle.market_rules.specs.Market.{Market}
use Rattle.pair_text.specs.Texts.{◌then◌, asset_name}
use Rattle.statement_rules.specs.Views.{Event, Adds, Opens, Deposits, Withdraws, Credits, Places, Cancels, Refuses, Clears, Skips}
use Rattle.market_rules.specs.Step.{ordered}
use Rattle.statement_rules.specs.Holdings.{Holding, changed, after, IsHeld}
use Rattle.statement_rules.specs.Statements.{event_lines, lines_from, asset_line, amount_line, placed_line, cost_line, end_lines, reserved_balance}
use Rattle.statement_rules.specs.Laws.{HoldingsTellAlike}

-- the holdings have the same assets and the same orders
record IsLike (h g : Holding) : Type 0 where
  tickers : h.tickers ≡ g.tickers
  orders : h.orders ≡ g.orders

like_changed : (h g : Holding) (kind : Option ℕ) (amount : ℤ) → IsLike h g → IsLike (changed h kind amount) (changed g kind amount)
like_changed h g None amount like = record { tickers = like.tickers; orders = like.orders }
like_changed h g (Some asset) amount like = record { tickers = like.tickers; orders = like.orders }

like_after : (h g : Holding) (event : Event) → IsLike h g → IsLike (after h event) (after g event)
like_after h g (Adds ticker) like = record { tickers = ap (λ l. l ++ ticker ∷ []) like.tickers; orders = like.orders }
like_after h g (Opens account) like = record { tickers = like.tickers; orders = like.orders }
like_after h g (Deposits kind count) like = like_changed h g kind (value_of kind count) like
like_after h g (Withdraws kind count) like = like_changed h g kind (neg_ℤ (value_of kind count)) like
like_after h g (Credits kind count) like = like
like_after h g (Places number last r) like = record { tickers = like.tickers; orders = ap (λ l. l ++ ordered number last r ∷ []) like.orders }
like_after h g (Cancels number) like = record { tickers = like.tickers; orders = ap (λ l. without l number) like.orders }
like_after h g (Refuses command refusal) like = like
like_after h g (Clears batch prices fills) like = record { tickers = like.tickers; orders = ap (λ l. going_on batch (staying (trades_of l fills))) like.orders }
like_after h g (Skips batch) like = record { tickers = like.tickers; orders = ap (going_on batch) like.orders }

like_event : (h g : Holding) (event : Event) → IsLike h g → event_lines h event ≡ event_lines g event
like_event h g (Adds ticker) like = refl
like_event h g (Opens account) like = refl
like_event h g (Deposits kind count) like = ap (λ tickers. amount_line (codes "deposit") tickers kind count) like.tickers
like_event h g (Withdraws kind count) like = ap (λ tickers. amount_line (codes "withdraw") tickers kind count) like.tickers
like_event h g (Credits kind count) like = ap (λ tickers. amount_line (codes "credit") tickers kind count) like.tickers
like_event h g (Places number last r) like = ap (λ tickers. placed_line tickers number last r) like.tickers
like_event h g (Cancels number) like = refl
like_event h g (Refuses command refusal) like = refl
like_event h g (Clears batch prices fills) like = ap (λ l. codes "batch " then decimal batch then codes " cleared\n" then flat_map (cost_line prices) (trades_of l fills)) like.orders
like_event h g (Skips batch) like = refl

like_lines : (h g : Holding) (view : List Event) → IsLike h g → lines_from h view ≡ lines_from g view
like_lines h g [] like = refl
like_lines h g (event ∷ view) like =
    ap (λ l. l ++ lines_from (after h event) view) (like_event h g event like) ∙ ap (λ l. event_lines g event ++ l) (like_lines (after h event) (after g event) view (like_after h g event like))

-- functions that agree on these numbers give the same texts
same_texts : (f g : ℕ → List ℕ) (start n : ℕ) → ((k : ℕ) → k < start + n → f k ≡ g k) → flat_map f (range_with_len start n) ≡ flat_map g (range_with_len start n)
same_texts f g start zero same = refl
same_texts f g start (suc n) same =
    ap (λ l. l ++ flat_map f (range_with_len (start + 1) n)) (same start (omega arith))
    ∙ ap (λ l. g start ++ l) (same_texts f g (start + 1) n (λ k inside. same k (omega (arith, inside))))

like_asset : (h g : Holding) (asset : ℕ) → IsLike h g → h.units asset ≡ g.units asset → asset_line h asset ≡ asset_line g asset
like_asset h g asset like units =
    ap (λ tickers. asset_name tickers asset then codes " units " then signed_decimal (h.units asset) then codes " reserved " then decimal (reserved_balance h (Some asset)) then codes "\n") like.tickers
    ∙ ap (λ u. asset_name g.tickers asset then codes " units " then signed_decimal u then codes " reserved " then decimal (reserved_balance h (Some asset)) then codes "\n") units
    ∙ ap (λ l. asset_name g.tickers asset then codes " units " then signed_decimal (g.units asset) then codes " reserved " then decimal (sum_by (unit_need asset) l) then codes "\n") like.orders

like_end : (h g : Holding) → IsLike h g → h.money ≡ g.money → ((asset : ℕ) → asset < length h.tickers → h.units asset ≡ g.units asset) → end_lines h ≡ end_lines g
like_end h g like money units =
    ap (λ m. codes "money " then signed_decimal m then codes " reserved " then decimal (reserved_balance h None) then codes "\n" then flat_map (asset_line h) (range_with_len 0 (length h.tickers))) money
    ∙ ap (λ l. codes "money " then signed_decimal g.money then codes " reserved " then decimal (sum_by money_need l) then codes "\n" then flat_map (asset_line h) (range_with_len 0 (length h.tickers))) like.orders
    ∙ ap (λ l. codes "money " then signed_decimal g.money then codes " reserved " then decimal (reserved_balance g None) then codes "\n" then l) (assets ∙ ap (λ l. flat_map (asset_line g) (range_with_len 0 (length l))) like.tickers)
  where
    assets : flat_map (asset_line h) (range_with_len 0 (length h.tickers)) ≡ flat_map (asset_line g) (range_with_len 0 (length h.tickers))
    assets = same_texts (asset_line h) (asset_line g) 0 (length h.tickers) (λ k inside. like_asset h g k like (units k (omega (arith, inside))))

like_held : (account : ℕ) (m : Market) (h g : Holding) → IsHeld account m h → IsHeld account m g → IsLike h g
like_held account m h g one other = record { tickers = one.tickers ∙ sym other.tickers; orders = one.orders ∙ sym other.orders }

pub holdings_tell_alike : HoldingsTellAlike
holdings_tell_alike = record {
  lines = λ account m h g view one other. like_lines h g view (like_held account m h g one other);
  last = λ account m h g consistent there one other.
      like_end h g (like_held account m h g one other) (one.money there.0 ∙ sym (other.money there.0))
      (λ asset inside. let is_asset : IsAsset m.balances asset = omega (arith, inside, ap length one.tickers, consistent.one_each.tickers) in
      one.units there.0 asset is_asset ∙ sym (other.units there.0 asset is_asset));
}
