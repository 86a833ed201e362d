-- One order is settled: what the calls require, and what they result in.
use Rattle.std.proofs.Common.{◌≡◌, ℕ, ◌+◌, ◌^◌, ◌≤◌, ℤ, pos, ◌+ℤ◌, ◌-ℤ◌, ◌*ℤ◌, ◌≤ℤ◌, ◌<ℤ◌, List, [], ◌∷◌, ◌-◌, ap, sym, subst, ◌∙◌, FitsSigned, arith, None}
use Rattle.std.specs.Prelude.{All, unsigned_abs, slice_index_or}
use Rattle.std.specs.Int.{w128}
use Rattle.std.proofs.lemmas.Int.{ints}
use Rattle.list_sums.proofs.Products.{unsigned_abs-mul_le}
use Rattle.weight_rows.specs.declared.entries.Entry.{Entry}
use Rattle.weight_rows.specs.Rows.{IsWeightVector, IsPricedBy, IsPrice, weight_in, portfolio_price}
use Rattle.weight_rows.proofs.RowLemmas.{price_is_bounded}
use Rattle.weight_rows.proofs.RowLawProofs.{weights_are_small}
use Rattle.demand_curve.specs.Demand.{IsRounding}
use Rattle.demand_curve.proofs.RoundingLaws.{rounding_is_within_room}
use Rattle.flow_accounts.specs.Balances.{Account, Balances, IsAccount, IsAsset, grains, no_credit, money_of, money_credit_of, money_with_credit, units_of, unit_credit_of, units_with_credit, move_balance}
use Rattle.flow_accounts.proofs.Moves.{money_moves}
use Rattle.flow_orders.specs.Orders.{Order, IsOrder, terms_of, money_need, unit_need}
use Rattle.flow_orders.specs.Excess.{price_for}
use Rattle.flow_orders.specs.Trades.{Trade, paid, received, trader}
use Rattle.flow_orders.proofs.TradeFacts.{IsAllowed}
use Rattle.fill_caps.specs.Moves.{MovesRow}
use Rattle.fill_caps.specs.Room.{MayChangeUnits}
use Rattle.fill_caps.specs.Settles.{Settles}
use Rattle.fill_caps.proofs.Amounts.{IsGone, gone_is}
use Rattle.fill_caps.proofs.Joined.{settles_one}
use Rattle.fill_caps.proofs.Needs.{rounding_is_allowed, money_need_falls, unit_need_falls}

module _ (prices : List ℤ) (o : Order) (x : ℕ) (is : IsOrder o) (rounding : IsRounding (terms_of o) x (price_for prices o)) where
  abbrev trade : Trade
  trade = record { order = o; traded = x }

  pub is_allowed : IsAllowed prices trade
  is_allowed = rounding_is_allowed prices trade is.terms rounding

  -- no rate is above the highest
  pub rate_is_small : x ≤ 2 ^ 24
  rate_is_small =
      let room = rounding_is_within_room (terms_of o) is.terms (price_for prices o) x rounding in
      omega (arith, room, is.terms.room_most, is.terms.rate_most)

  paid_small : All IsPrice prices → unsigned_abs (paid prices trade) ≤ 2 ^ 102
  paid_small range = unsigned_abs-mul_le (pos x) (price_for prices o) (2 ^ 24) (2 ^ 78) rate_is_small (price_is_bounded o.row prices is.row range)

  -- what the exchange got is what the account owes
  pub owed_is : All IsPrice prices → (held now : ℤ) (row : List Entry) → row ≡ o.row → FitsSigned w128 held → FitsSigned w128 now → now ≡ held +ℤ pos x *ℤ portfolio_price row prices → IsGone held now (paid prices trade)
  owed_is range held now row row_is held_fits now_fits now_is =
      gone_is held now (paid prices trade) held_fits now_fits (now_is ∙ ap (λ r. held +ℤ pos x *ℤ portfolio_price r prices) row_is) (omega (arith, paid_small range))

  -- an account that covers what the order needs can pay
  pub money_stays : All IsPrice prices → (held : ℤ) (credit : ℕ) (amount : ℤ) → pos (money_need o) ≤ℤ (held +ℤ grains credit) → held ≤ℤ pos (2 ^ 123 + 2 ^ 117) → amount ≡ pos 0 -ℤ paid prices trade
      → (pos 0 ≤ℤ (held +ℤ grains credit +ℤ amount)) × ((held +ℤ amount) <ℤ pos (2 ^ 124))
  money_stays range held credit amount covered most amount_is =
      let falls = money_need_falls prices trade is_allowed in (
        omega (arith, ints, falls, amount_is, covered),
        omega (arith, ints, paid_small range, amount_is, most),
      )

  -- an account that covers what the order needs can give its units
  pub units_stay : (asset : ℕ) (held : ℤ) (credit : ℕ) → pos (unit_need asset o) ≤ℤ (held +ℤ pos credit) → held ≤ℤ pos (2 ^ 61)
      → (pos 0 ≤ℤ (held +ℤ pos credit +ℤ received asset trade)) × ((held +ℤ received asset trade) <ℤ pos (2 ^ 62))
  units_stay asset held credit covered most =
      let falls = unit_need_falls prices asset trade is_allowed in
      let small = unsigned_abs-mul_le (weight_in o.row asset) (pos x) 4096 (2 ^ 24) (weights_are_small o.row asset is.row) rate_is_small in (
        omega (arith, ints, falls, covered),
        omega (arith, ints, small, most),
      )

  -- once the units of the legs are moved, the account can pay
  pub can_pay : All IsPrice prices → (old mid : Balances) (row : List Entry) (account : ℕ) (exchange_old exchange_new : Account) (amount : ℤ) → account ≡ o.account → MovesRow prices account x row old mid exchange_old exchange_new
      → pos (money_need o) ≤ℤ money_with_credit old o.account → money_of old o.account ≤ℤ pos (2 ^ 123 + 2 ^ 117) → amount ≡ pos 0 -ℤ paid prices trade
      → (pos 0 ≤ℤ (money_with_credit mid account +ℤ amount)) × ((money_of mid account +ℤ amount) <ℤ pos (2 ^ 124))
  can_pay range old mid row account exchange_old exchange_new amount account_is moves covered most amount_is =
      let credit : money_credit_of mid o.account ≡ money_credit_of old o.account = ap (λ l. (slice_index_or l (o.account - 1) (no_credit 0)).ticks) moves.credits in
      rw (account_is, moves.money o.account, credit) (money_stays range (money_of old o.account) (money_credit_of old o.account) amount covered most amount_is)

  -- the account can give
  pub can_give : (b : Balances) (row : List Entry) (account : ℕ) → row ≡ o.row → account ≡ o.account
      → ((asset : ℕ) → IsAsset b asset → pos (unit_need asset o) ≤ℤ units_with_credit b o.account asset) → ((asset : ℕ) → IsAsset b asset → units_of b o.account asset ≤ℤ pos (2 ^ 61))
      → (asset : ℕ) → IsAsset b asset → MayChangeUnits b account asset (weight_in row asset *ℤ pos x)
  can_give b row account row_is account_is covered most asset is_asset =
      rw (account_is, row_is) (units_stay asset (units_of b o.account asset) (unit_credit_of b o.account asset) (covered asset is_asset) (most asset is_asset))

module _ (prices : List ℤ) (t : Trade) (old mid new : Balances) (amount : ℤ) (exchange_old exchange_new : Account) (lawful : IsWeightVector t.order.row) (priced : IsPricedBy t.order.row prices)
    (there : IsAccount old (trader t)) (amount_is : amount ≡ pos 0 -ℤ paid prices t) (moves : MovesRow prices (trader t) t.traded t.order.row old mid exchange_old exchange_new)
    (pays_is : new ≡ move_balance mid (trader t) None amount) where
  -- the units of the legs are moved, and then the account pays
  moves_and_pays : Settles prices (t ∷ []) old (move_balance mid (trader t) None amount) exchange_old exchange_new
  moves_and_pays =
      let still : IsAccount mid (trader t) = (there.0, omega (arith, there.1, moves.accounts)) in
      let pays = money_moves mid (trader t) amount still in
      settles_one prices t old (move_balance mid (trader t) None amount) exchange_old exchange_new lawful priced (pays.accounts ∙ moves.accounts) moves.credits moves.totals
      (omega (arith, ints, moves.money (trader t), pays.money, amount_is))
      (λ other other_there differs. pays.others other (other_there.0, omega (arith, other_there.1, moves.accounts)) differs ∙ moves.money other)
      (λ asset is_asset. pays.units (trader t) asset ∙ moves.units asset)
      (λ other asset other_there is_asset differs. pays.units other asset ∙ moves.others other asset other_there differs)
      moves.exchange_money
      moves.exchange_units

  trade_settles : Settles prices (t ∷ []) old new exchange_old exchange_new
  trade_settles = subst (λ (b : Balances). Settles prices (t ∷ []) old b exchange_old exchange_new) (sym pays_is) moves_and_pays

pub order_settles : (prices : List ℤ) (o : Order) (x : ℕ) (amount : ℤ) (row : List Entry) (account : ℕ) (old mid new : Balances) (exchange_old exchange_new : Account) → IsWeightVector o.row → IsPricedBy o.row prices → IsAccount old o.account
    → row ≡ o.row → account ≡ o.account → amount ≡ pos 0 -ℤ paid prices (record { order = o; traded = x }) → MovesRow prices account x row old mid exchange_old exchange_new → new ≡ move_balance mid account None amount
    → Settles prices (record { order = o; traded = x } ∷ []) old new exchange_old exchange_new
order_settles prices o x amount row account old mid new exchange_old exchange_new lawful priced there row_is account_is amount_is moves new_is =
    trade_settles prices (record { order = o; traded = x }) old mid new amount exchange_old exchange_new lawful priced there amount_is (rw (row_is, account_is) at moves) (rw account_is at new_is)
