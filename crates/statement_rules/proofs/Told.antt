-- What an account's view says of a step is what the step changes in the account.
use Rattle.std.proofs.Common.{◌≡◌, ◌≢◌, ◌⊎◌, inl, inr, ℕ, ◌+◌, ◌<◌, ◌≤◌, Bool, true, false, not, ◌&&◌, ℤ, pos, neg_ℤ, ◌+ℤ◌, ◌-ℤ◌, List, [], ◌∷◌, ◌++◌, length, map, Option, Some, None, Result, Ok, Err, refl, sym, ap, subst, ◌∙◌, arith}
use Rattle.std.specs.Prelude.{nat_lt, ◌==◌}
use Rattle.std.proofs.lemmas.Bool.{cases_Bool, ne_eqb, eq-eqb, eqb-true, lt-ltb, ltb-true, and_from, and_parts, true≢false}
use Rattle.std.proofs.lemmas.Bool.Decides.{eqb_tells}
use Rattle.std.proofs.lemmas.List.{length-map, length_push, append-nil}
use Rattle.std.proofs.lemmas.List.Elements.{filter-append}
use Rattle.list_sums.specs.Sums.{int_sum_by}
use Rattle.wire_records.specs.Commands.{Command, AddAsset, OpenAccount, Deposit, Withdraw, Place, CancelOrder, RunBatch, SetCredit, Answer, Plain, Batch}
use Rattle.wire_records.specs.declared.command.BodyFault.{BodyFault}
use Rattle.wire_records.specs.declared.reply.Refusal.{Refusal}
use Rattle.wire_records.specs.declared.reply.Reply.TheVariants as reply
use Rattle.flow_accounts.specs.Balances.{Balances, IsAccount, IsAsset, account_count, asset_count, grains, money_of, units_of, open_account, add_asset, change_balance}
use Rattle.flow_accounts.specs.Changes.{KeepsBalances, AddsAsset, ChangesUnitsOf}
use Rattle.flow_accounts.proofs.Moves.{money_changes, units_change, opened_kept, asset_kept, assets_start_at_zero}
use Rattle.flow_orders.specs.Orders.{Order, own_sum}
use Rattle.flow_orders.specs.Outcomes.{Outcome, Cleared, Skipped, Fill, Clearing, IsAdmissibleOutcome, trades_of}
use Rattle.flow_orders.specs.Trades.{Trade, trader, paid, received, staying, going_on}
use Rattle.fill_caps.specs.Settles.{Settles}
use Rattle.fill_caps.proofs.SettledBalances.{settles}
use Rattle.order_book.specs.Book.{without}
use Rattle.market_rules.specs.Market.{Market, IsConsistent}
use Rattle.market_rules.specs.Step.{FirstRefusal, Accepts, ServesRead, placed, after_batch}
use Rattle.market_rules.proofs.ByFirst.{Answers}
use Rattle.market_rules.proofs.Accepted.{past_unless}
use Rattle.market_rules.proofs.Lawful.{consistent_is_lawful}
use Rattle.statement_rules.specs.Views.{Event, Adds, Opens, Deposits, Withdraws, Credits, Places, Cancels, Refuses, Clears, Skips, is_there, event_if, seen, own_trades, own_fills}
use Rattle.statement_rules.specs.Holdings.{Holding, IsHeld, after, after_all, own_orders, changed}
use Rattle.statement_rules.proofs.Lists.{filters_swap, own_sum_is}
use Rattle.statement_rules.proofs.OwnParts.{own_again, own_going_on, none_own, others_cancel, no_money, no_units}

-- ---- whether an account is there

pub there_is : (m : Market) (account : ℕ) → IsAccount m.balances account → is_there m account ≡ true
there_is m account there = and_from (nat_lt 0 account) (nat_lt account (account_count m.balances + 1)) (lt-ltb 0 account there.0) (lt-ltb account (account_count m.balances + 1) (omega (arith, there.1)))

pub is_account : (m : Market) (account : ℕ) → is_there m account ≡ true → IsAccount m.balances account
is_account m account is =
    let parts = and_parts (nat_lt 0 account) (nat_lt account (account_count m.balances + 1)) is in
    let low : 0 < account = ltb-true 0 account parts.0 in
    let high : account < account_count m.balances + 1 = ltb-true account (account_count m.balances + 1) parts.1 in
    (low, omega (arith, high))

pub isn't_account : (m : Market) (account : ℕ) → is_there m account ≡ false → IsAccount m.balances account → ⊥
isn't_account m account not_there there = true≢false (sym (there_is m account there) ∙ not_there)

-- markets with as many accounts have the same accounts
same_there : (m n : Market) (account : ℕ) → account_count n.balances ≡ account_count m.balances → is_there m account ≡ is_there n account
same_there m n account count = ap (λ k. nat_lt 0 account && nat_lt account (k + 1)) (sym count)

-- an event that is seen, or isn't
told_if : (account : ℕ) (n : Market) (h : Holding) (b : Bool) (event : Event) → (b ≡ true → IsHeld account n (after h event)) → (b ≡ false → IsHeld account n h) → IsHeld account n (after_all h (event_if b event))
told_if account n h true event is_so not_so = is_so refl
told_if account n h false event is_so not_so = not_so refl

module _ (account : ℕ) (m : Market) (h : Holding) (consistent : IsConsistent m) (held : IsHeld account m h) where
  -- a command that names an account that is there, and isn't seen, is another account's
  unseen : (named : ℕ) → IsAccount m.balances named → (is_there m account && (named == account)) ≡ false → named ≢ account
  unseen named there unseen_it same =
      true≢false (sym (and_from (is_there m account) (named == account) (subst (λ a. is_there m a ≡ true) same (there_is m named there)) (eq-eqb named account same)) ∙ unseen_it)

  -- a command that is seen names this account
  seen_names : (named : ℕ) → (is_there m account && (named == account)) ≡ true → named ≡ account
  seen_names named is = eqb-true named account (and_parts (is_there m account) (named == account) is).1

  -- other balances, with the account's as they were
  same_balances : (b : Balances) → account_count b ≡ account_count m.balances → asset_count b ≡ asset_count m.balances
      → (IsAccount m.balances account → money_of b account ≡ money_of m.balances account)
      → ((asset : ℕ) → IsAccount m.balances account → units_of b account asset ≡ units_of m.balances account asset)
      → IsHeld account (record m { balances = b }) h
  same_balances b count assets money units = record {
    tickers = held.tickers;
    opened = held.opened ∙ same_there m (record m { balances = b }) account count;
    money = λ some. held.money some ∙ sym (by_money some (cases_Bool (is_there m account)));
    units = λ some asset is. held.units some asset (subst (λ k. asset < k) assets is) ∙ sym (by_units some asset (cases_Bool (is_there m account)));
    orders = held.orders;
  }
    where
      absent : is_there m account ≡ false → IsAccount b account → ⊥
      absent not_so there = isn't_account m account not_so (there.0, subst (λ k. account ≤ k) count there.1)

      by_money : 0 < account → (is_there m account ≡ true) ⊎ (is_there m account ≡ false) → money_of b account ≡ money_of m.balances account
      by_money some (inl is_so) = money (is_account m account is_so)
      by_money some (inr not_so) = no_money b account some (absent not_so) ∙ sym (no_money m.balances account some (isn't_account m account not_so))

      by_units : 0 < account → (asset : ℕ) → (is_there m account ≡ true) ⊎ (is_there m account ≡ false) → units_of b account asset ≡ units_of m.balances account asset
      by_units some asset (inl is_so) = units asset (is_account m account is_so)
      by_units some asset (inr not_so) = no_units b account asset some (absent not_so) ∙ sym (no_units m.balances account asset some (isn't_account m account not_so))

  -- money of an account changes
  told_money : (named : ℕ) (amount : ℤ) (event : Event) → IsAccount m.balances named → after h event ≡ changed h None amount
      → IsHeld account (record m { balances = change_balance m.balances named None amount }) (after_all h (event_if (is_there m account && (named == account)) event))
  told_money named amount event there is =
      let changes = money_changes m.balances named amount there in
      let n : Market = record m { balances = change_balance m.balances named None amount } in
      told_if account n h (is_there m account && (named == account)) event
      (λ is_so. let same = seen_names named is_so in subst (IsHeld account n) (sym is) (record {
        tickers = held.tickers;
        opened = held.opened ∙ same_there m n account changes.accounts;
        money = λ some. ap (λ x. x +ℤ amount) (held.money some) ∙ subst (λ a. money_of m.balances a +ℤ amount ≡ money_of n.balances a) same (sym changes.money);
        units = λ some asset is_asset. held.units some asset is_asset ∙ sym (changes.units account asset);
        orders = held.orders;
      }))
      (λ not_so. same_balances n.balances changes.accounts refl (λ here. changes.others account here (λ same. unseen named there not_so (sym same))) (λ asset here. changes.units account asset))

  -- units of an account change
  told_units : (named moved : ℕ) (amount : ℤ) (event : Event) → IsAccount m.balances named → IsAsset m.balances moved → after h event ≡ changed h (Some moved) amount
      → IsHeld account (record m { balances = change_balance m.balances named (Some moved) amount }) (after_all h (event_if (is_there m account && (named == account)) event))
  told_units named moved amount event there is_changed is =
      told_if account n h (is_there m account && (named == account)) event
      (λ is_so. subst (IsHeld account n) (sym is) (record {
        tickers = held.tickers;
        opened = held.opened ∙ same_there m n account changes.accounts;
        money = λ some. held.money some ∙ sym (changes.money account);
        units = λ some asset is_asset. at some asset (subst (λ k. asset < k) changes.assets is_asset) (seen_names named is_so) (eqb_tells asset moved);
        orders = held.orders;
      }))
      (λ not_so. same_balances n.balances changes.accounts changes.assets (λ here. changes.money account) (λ asset here. changes.others account asset here (λ same. unseen named there not_so (sym same))))
    where
      n : Market
      n = record m { balances = change_balance m.balances named (Some moved) amount }

      changes : ChangesUnitsOf named moved amount m.balances n.balances
      changes = (units_change m.balances named moved amount (consistent_is_lawful m consistent) there is_changed).0

      at : 0 < account → (asset : ℕ) → IsAsset m.balances asset → named ≡ account → (((asset == moved) ≡ true) × (asset ≡ moved)) ⊎ (((asset == moved) ≡ false) × (asset ≢ moved))
          → (changed h (Some moved) amount).units asset ≡ units_of n.balances account asset
      at some asset is_asset same (inl here) =
          rw here.0 (ap (λ x. x +ℤ amount) (held.units some asset is_asset)
          ∙ subst (λ a. units_of m.balances a asset +ℤ amount ≡ units_of n.balances a asset) same (subst (λ s. units_of m.balances named s +ℤ amount ≡ units_of n.balances named s) (sym here.1) (sym changes.units)))
      at some asset is_asset same (inr other) =
          rw other.0 (held.units some asset is_asset ∙ subst (λ a. units_of m.balances a asset ≡ units_of n.balances a asset) same (sym (changes.other_assets asset other.1)))

  -- an order is placed
  told_order : (o : Order) (event : Event) → IsAccount m.balances o.account → after h event ≡ record h { orders = h.orders ++ o ∷ [] }
      → IsHeld account (record m { orders = m.orders ++ o ∷ []; next_order = m.next_order + 1 }) (after_all h (event_if (is_there m account && (o.account == account)) event))
  told_order o event there is =
      told_if account n h (is_there m account && (o.account == account)) event
      (λ is_so. subst (IsHeld account n) (sym is) (record {
        tickers = held.tickers;
        opened = held.opened;
        money = held.money;
        units = held.units;
        orders = ap (λ l. l ++ o ∷ []) held.orders ∙ sym (parts ∙ ap (λ l. own_orders account m.orders ++ l) (mine (eq-eqb o.account account (seen_names o.account is_so))));
      }))
      (λ not_so. record {
        tickers = held.tickers;
        opened = held.opened;
        money = held.money;
        units = held.units;
        orders = held.orders ∙ sym (parts ∙ ap (λ l. own_orders account m.orders ++ l) (others (ne_eqb o.account account (unseen o.account there not_so))) ∙ append-nil (own_orders account m.orders));
      })
    where
      n : Market
      n = record m { orders = m.orders ++ o ∷ []; next_order = m.next_order + 1 }

      parts : own_orders account (m.orders ++ o ∷ []) ≡ own_orders account m.orders ++ own_orders account (o ∷ [])
      parts = filter-append (λ (x : Order). x.account == account) m.orders (o ∷ [])

      mine : (o.account == account) ≡ true → own_orders account (o ∷ []) ≡ o ∷ []
      mine one = rw one refl

      others : (o.account == account) ≡ false → own_orders account (o ∷ []) ≡ []
      others one = rw one refl

  -- a new list of orders, and nothing else but counts
  told_cancel : (named number : ℕ) (event : Event) → FirstRefusal m (CancelOrder named number) None → after h event ≡ record h { orders = without h.orders number }
      → IsHeld account (record m { orders = without m.orders number }) (after_all h (event_if (is_there m account && (named == account)) event))
  told_cancel named number event none is =
      let one = past_unless none in
      let two = past_unless one.1 in
      let n : Market = record m { orders = without m.orders number } in
      told_if account n h (is_there m account && (named == account)) event
      (λ is_so. subst (IsHeld account n) (sym is) (record {
        tickers = held.tickers;
        opened = held.opened;
        money = held.money;
        units = held.units;
        orders = ap (λ l. without l number) held.orders ∙ filters_swap (λ (o : Order). not (o.number == number)) (λ (o : Order). o.account == account) m.orders;
      }))
      (λ not_so. record {
        tickers = held.tickers;
        opened = held.opened;
        money = held.money;
        units = held.units;
        orders = held.orders ∙ sym (others_cancel account named number m.orders consistent.ascending two.0 (unseen named one.0 not_so));
      })

  -- an asset is added
  told_asset : (ticker : List ℕ) (n : Market) → n.tickers ≡ m.tickers ++ ticker ∷ [] → n.balances ≡ add_asset m.balances → n.orders ≡ m.orders → IsHeld account n (after h (Adds ticker))
  told_asset ticker n tickers balances orders = record {
    tickers = ap (λ l. l ++ ticker ∷ []) held.tickers ∙ sym tickers;
    opened = held.opened ∙ same_there m n account (ap account_count balances ∙ length-map m.balances.accounts _);
    money = λ some. held.money some ∙ sym (ap (λ b. money_of b account) balances ∙ kept.money account);
    units = λ some asset is. at some asset (subst (λ b. IsAsset b asset) balances is) (eqb_tells asset (length h.tickers)) ∙ sym (ap (λ b. units_of b account asset) balances);
    orders = held.orders ∙ ap (own_orders account) (sym orders);
  }
    where
      kept : KeepsBalances m.balances (add_asset m.balances)
      kept = asset_kept m.balances

      adds : AddsAsset m.balances (add_asset m.balances)
      adds = assets_start_at_zero m.balances (consistent_is_lawful m consistent)

      count : length h.tickers ≡ asset_count m.balances
      count = ap length held.tickers ∙ consistent.one_each.tickers

      zero_of : 0 < account → (is_there m account ≡ true) ⊎ (is_there m account ≡ false) → units_of (add_asset m.balances) account (asset_count m.balances) ≡ pos 0
      zero_of some (inl is_so) = adds.units account (is_account m account is_so)
      zero_of some (inr not_so) = kept.units account (asset_count m.balances) ∙ no_units m.balances account (asset_count m.balances) some (isn't_account m account not_so)

      at : 0 < account → (asset : ℕ) → IsAsset (add_asset m.balances) asset → (((asset == length h.tickers) ≡ true) × (asset ≡ length h.tickers)) ⊎ (((asset == length h.tickers) ≡ false) × (asset ≢ length h.tickers))
          → (after h (Adds ticker)).units asset ≡ units_of (add_asset m.balances) account asset
      at some asset is (inl new) = rw new.0 (sym (ap (λ s. units_of (add_asset m.balances) account s) (new.1 ∙ count) ∙ zero_of some (cases_Bool (is_there m account))))
      at some asset is (inr old) =
          let more : asset_count (add_asset m.balances) ≡ asset_count m.balances + 1 = adds.assets in
          rw old.0 (held.units some asset (omega (arith, is, more, old.1, count)) ∙ sym (kept.units account asset))

  -- an account is opened
  told_opening : (event : Event) → after h event ≡ record h { is_open = true } → IsHeld account (record m { balances = open_account m.balances }) (after_all h (event_if (account_count m.balances + 1 == account) event))
  told_opening event is =
      told_if account n h (account_count m.balances + 1 == account) event
      (λ is_so. subst (IsHeld account n) (sym is) (record {
        tickers = held.tickers;
        opened = sym (there_is n account (let same = eqb-true (account_count m.balances + 1) account is_so in (omega (arith, same), omega (arith, same, count))));
        money = money;
        units = units;
        orders = held.orders;
      }))
      (λ not_so. record {
        tickers = held.tickers;
        opened = held.opened ∙ by (cases_Bool (is_there m account)) (cases_Bool (is_there n account)) not_so;
        money = money;
        units = units;
        orders = held.orders;
      })
    where
      n : Market
      n = record m { balances = open_account m.balances }

      kept : KeepsBalances m.balances (open_account m.balances)
      kept = opened_kept m.balances

      count : account_count n.balances ≡ account_count m.balances + 1
      count = length_push m.balances.accounts _

      money : 0 < account → h.money ≡ money_of n.balances account
      money some = held.money some ∙ sym (kept.money account)

      units : 0 < account → (asset : ℕ) → IsAsset n.balances asset → h.units asset ≡ units_of n.balances account asset
      units some asset is_asset = held.units some asset is_asset ∙ sym (kept.units account asset)

      differs : (account_count m.balances + 1 == account) ≡ false → account_count m.balances + 1 ≢ account
      differs not_so same = true≢false (sym (eq-eqb (account_count m.balances + 1) account same) ∙ not_so)

      by : (is_there m account ≡ true) ⊎ (is_there m account ≡ false) → (is_there n account ≡ true) ⊎ (is_there n account ≡ false) → (account_count m.balances + 1 == account) ≡ false → is_there m account ≡ is_there n account
      by (inl one) (inl two) not_so = one ∙ sym two
      by (inr one) (inr two) not_so = one ∙ sym two
      by (inl one) (inr two) not_so = let here = is_account m account one in absurd (isn't_account n account two (here.0, omega (arith, here.1, count)))
      by (inr one) (inl two) not_so = let here = is_account n account two in absurd (isn't_account m account one (here.0, omega (arith, here.1, count, differs not_so)))

  -- a batch cleared
  told_cleared : (batch : ℕ) (c : Clearing) → batch ≡ m.batches + 1 → IsHeld account (after_batch m (Cleared c)) (after_all h (event_if (is_there m account) (Clears batch c.prices (own_fills account m c))))
  told_cleared batch c is_batch =
      told_if account n h (is_there m account) (Clears batch c.prices (own_fills account m c))
      (λ is_so. record {
        tickers = held.tickers;
        opened = held.opened ∙ same_there m n account done.accounts;
        money = λ some. ap (λ x. x -ℤ int_sum_by (paid c.prices) (trades_of h.orders (own_fills account m c))) (held.money some)
            ∙ ap (λ x. money_of m.balances account -ℤ x) (own_amount (paid c.prices)) ∙ sym (done.money account (is_account m account is_so));
        units = λ some asset is. let old : IsAsset m.balances asset = is in
            ap (λ x. x +ℤ int_sum_by (received asset) (trades_of h.orders (own_fills account m c))) (held.units some asset old)
            ∙ ap (λ x. units_of m.balances account asset +ℤ x) (own_amount (received asset)) ∙ sym (done.units account asset (is_account m account is_so) old);
        orders = ap (λ l. going_on batch (staying l)) own ∙ sym (own_going_on account batch ts) ∙ ap (λ k. own_orders account (going_on k (staying ts))) is_batch;
      })
      (λ not_so. record {
        tickers = held.tickers;
        opened = held.opened ∙ same_there m n account done.accounts;
        money = λ some. held.money some ∙ no_money m.balances account some (isn't_account m account not_so) ∙ sym (no_money n.balances account some (absent not_so));
        units = λ some asset is. let old : IsAsset m.balances asset = is in
            held.units some asset old ∙ no_units m.balances account asset some (isn't_account m account not_so) ∙ sym (no_units n.balances account asset some (absent not_so));
        orders = held.orders ∙ none_own account m consistent (isn't_account m account not_so)
            ∙ sym (own_going_on account (m.batches + 1) ts ∙ ap (λ l. going_on (m.batches + 1) (staying l)) (sym (own_again account m.orders rates) ∙ ap (λ l. trades_of l (own_fills account m c)) (none_own account m consistent (isn't_account m account not_so))));
      })
    where
      ts : List Trade
      ts = trades_of m.orders c.fills

      rates : List ℕ
      rates = map (λ (f : Fill). f.rate) c.fills

      n : Market
      n = after_batch m (Cleared c)

      done : Settles c.prices ts m.balances n.balances m.exchange n.exchange
      done = settles c.prices ts m.balances m.exchange

      own : trades_of h.orders (own_fills account m c) ≡ own_trades account ts
      own = ap (λ l. trades_of l (own_fills account m c)) held.orders ∙ own_again account m.orders rates

      own_amount : (f : Trade → ℤ) → int_sum_by f (trades_of h.orders (own_fills account m c)) ≡ own_sum trader account f ts
      own_amount f = ap (int_sum_by f) own ∙ sym (own_sum_is trader account f ts)

      absent : is_there m account ≡ false → IsAccount n.balances account → ⊥
      absent not_so there = isn't_account m account not_so (there.0, subst (λ k. account ≤ k) done.accounts there.1)

  -- a batch was skipped
  told_skipped : (batch : ℕ) (n : Market) → batch ≡ m.batches + 1 → n ≡ record m { orders = going_on (m.batches + 1) m.orders; batches = m.batches + 1 } → IsHeld account n (after_all h (event_if (is_there m account) (Skips batch)))
  told_skipped batch n is_batch made = subst (λ x. IsHeld account x (after_all h (event_if (is_there m account) (Skips batch)))) (sym made)
      (told_if account k h (is_there m account) (Skips batch)
      (λ is_so. record {
        tickers = held.tickers;
        opened = held.opened;
        money = held.money;
        units = held.units;
        orders = ap (going_on batch) held.orders ∙ ap (λ b. going_on b (own_orders account m.orders)) is_batch ∙ swapped;
      })
      (λ not_so. record {
        tickers = held.tickers;
        opened = held.opened;
        money = held.money;
        units = held.units;
        orders = held.orders ∙ none_own account m consistent (isn't_account m account not_so) ∙ ap (going_on (m.batches + 1)) (sym (none_own account m consistent (isn't_account m account not_so))) ∙ swapped;
      }))
    where
      k : Market
      k = record m { orders = going_on (m.batches + 1) m.orders; batches = m.batches + 1 }

      swapped : going_on (m.batches + 1) (own_orders account m.orders) ≡ own_orders account (going_on (m.batches + 1) m.orders)
      swapped = filters_swap (λ (o : Order). not (o.last == m.batches + 1)) (λ (o : Order). o.account == account) m.orders

  -- a refusal changes nothing
  refused_keeps : (c : Command) (r : Refusal) → IsHeld account m (after_all h (seen account m (Ok c) (Plain (reply.Refused r))))
  refused_keeps (AddAsset ticker) r = held
  refused_keeps OpenAccount r = held
  refused_keeps (RunBatch budget) r = held
  refused_keeps command r = told_if account m h _ (Refuses command r) (λ is_so. held) (λ not_so. held)

  -- what is seen of an accepted command, by an equal answer and market
  answered_so : (c : Command) (a b : Answer Outcome) (n k : Market) → a ≡ b → n ≡ k → IsHeld account k (after_all h (seen account m (Ok c) b)) → IsHeld account n (after_all h (seen account m (Ok c) a))
  answered_so c a b n k same made told = rw (same, made) told

  same_credit : (n : Market) (b : Bool) (event : Event) → after h event ≡ h → IsHeld account n h → IsHeld account n (after_all h (event_if b event))
  same_credit n b event is told = told_if account n h b event (λ is_so. subst (IsHeld account n) (sym is) told) (λ not_so. told)

  told_batch : (outcome : Outcome) → IsHeld account (after_batch m outcome) (after_all h (seen account m (Ok (RunBatch 0)) (Batch (m.batches + 1) outcome)))
  told_batch (Cleared c) = told_cleared (m.batches + 1) c refl
  told_batch (Skipped s) = told_skipped (m.batches + 1) (after_batch m (Skipped s)) refl refl

  told_accepted : (c : Command) (a : Answer Outcome) (n : Market) → FirstRefusal m c None → Accepts IsAdmissibleOutcome m c a n → IsHeld account n (after_all h (seen account m (Ok c) a))
  told_accepted (AddAsset ticker) a n none accepts = answered_so (AddAsset ticker) a _ n _ accepts.0 accepts.1 (told_asset ticker _ refl refl refl)
  told_accepted OpenAccount a n none accepts = answered_so OpenAccount a _ n _ accepts.0 accepts.1 (told_opening (Opens account) refl)
  told_accepted (Deposit named None ticks) a n none accepts = answered_so (Deposit named None ticks) a _ n _ accepts.0 accepts.1 (told_money named (grains ticks) (Deposits None ticks) (past_unless none).0 refl)
  told_accepted (Deposit named (Some asset) units) a n none accepts =
      let one = past_unless none in
      answered_so (Deposit named (Some asset) units) a _ n _ accepts.0 accepts.1 (told_units named asset (pos units) (Deposits (Some asset) units) one.0 (past_unless one.1).0 refl)
  told_accepted (Withdraw named None ticks) a n none accepts = answered_so (Withdraw named None ticks) a _ n _ accepts.0 accepts.1 (told_money named (neg_ℤ (grains ticks)) (Withdraws None ticks) (past_unless none).0 refl)
  told_accepted (Withdraw named (Some asset) units) a n none accepts =
      let one = past_unless none in
      answered_so (Withdraw named (Some asset) units) a _ n _ accepts.0 accepts.1 (told_units named asset (neg_ℤ (pos units)) (Withdraws (Some asset) units) one.0 (past_unless one.1).0 refl)
  told_accepted (Place last r) a n none accepts =
      answered_so (Place last r) a _ n _ accepts.0 accepts.1 (told_order (placed m last r) (Places m.next_order last r) (past_unless none).0 refl)
  told_accepted (CancelOrder named number) a n none accepts =
      answered_so (CancelOrder named number) a _ n _ accepts.0 accepts.1 (told_cancel named number (Cancels number) none refl)
  told_accepted (RunBatch budget) a n none accepts = answered_so (RunBatch budget) a _ n _ accepts.2.0 accepts.2.1 (told_batch accepts.0)
  told_accepted (SetCredit named kind count) a n none accepts =
      answered_so (SetCredit named kind count) a _ n _ accepts.0 accepts.1
      (same_credit _ (is_there m account && (named == account)) (Credits kind count) refl
      (record { tickers = held.tickers; opened = held.opened; money = held.money; units = held.units; orders = held.orders }))

  -- a step of a market
  pub told : (read : Result Command BodyFault) (a : Answer Outcome) (n : Market) → ServesRead IsAdmissibleOutcome m read a n → IsHeld account n (after_all h (seen account m read a))
  told (Err why) a n served = subst (λ x. IsHeld account x h) (sym served.1) held
  told (Ok c) a n served = by served.first served.refused served.answered
    where
      by : (first : Option Refusal) → FirstRefusal m c first → Answers IsAdmissibleOutcome m c first a n → IsHeld account n (after_all h (seen account m (Ok c) a))
      by (Some r) refused answered = answered_so c a _ n _ answered.0 answered.1 (refused_keeps c r)
      by None refused answered = told_accepted c a n refused answered
