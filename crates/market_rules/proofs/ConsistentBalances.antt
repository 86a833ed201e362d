-- Deposits, withdrawals, credits and new accounts keep a market consistent.
use Rattle.std.proofs.Common.{◌≡◌, ◌≢◌, ℕ, ◌+◌, ◌-◌, ◌≤◌, ◌<◌, ℤ, pos, ◌+ℤ◌, ◌≤ℤ◌, List, length, refl, ap, sym, subst, ⊎_elim, ◌∙◌, arith, Some, None, Option}
use Rattle.std.specs.Prelude.{All, slice_set, slice_index_or}
use Rattle.std.proofs.lemmas.Int.{ints}
use Rattle.std.proofs.lemmas.Bool.{cases_eq, cases_lt}
use Rattle.std.proofs.lemmas.List.{length-set, length-replicate, length_push}
use Rattle.std.proofs.lemmas.List.Elements.{All-set, All-push, All-replicate}
use Rattle.flow_accounts.specs.Balances.{Account, Balances, IsAccount, IsAsset, IsKind, account_count, asset_count, account_of, empty_account, money_of, units_of, total_of, open_account, grains, no_credit, money_credit_of, unit_credit_of, money_with_credit, units_with_credit, change_balance, set_credit}
use Rattle.flow_accounts.specs.Lawful.{total_limit, most_credit, IsLawfulCredit}
use Rattle.flow_accounts.proofs.Credits.{money_credit_is_set, unit_credit_is_set, credits_keep_law}
use Rattle.market_rules.proofs.ByKind.{holds_totals, within_limits}
use Rattle.flow_accounts.proofs.Grown.{lawful-no_credit}
use Rattle.fill_caps.proofs.Needs.{own_not_negative, covers_both}
use Rattle.wire_records.specs.declared.version.Version.TheVariants.{One}
use Rattle.wire_records.specs.Limits.{limits_of}
use Rattle.market_rules.proofs.Ending.{all_in_time}
use Rattle.flow_accounts.proofs.Moves.{money_changes, units_change, accounts_open_empty}
use Rattle.flow_orders.specs.Orders.{Order, needed_money, needed_units, money_need, unit_need}
use Rattle.fill_caps.specs.Covers.{CoversNeeds}
use Rattle.market_rules.specs.Market.{Market, IsConsistent, IsLiveOrder, IsInTime, IsNoCredit, HasLawfulCredit, HoldsTotals, held_balance}
use Rattle.market_rules.proofs.Made.{with_balances}
use Rattle.market_rules.proofs.Lawful.{consistent_is_lawful}
use Rattle.market_rules.proofs.OwnNeeds.{own_sum-none}

-- each account has this many balances of units
abbrev HasUnits : ℕ → Account → Type 0
HasUnits n a = length a.units ≡ n

-- orders stay live if their accounts and assets are still there and they are still in time
pub live_still : (m n : Market) (orders : List Order) → n.version ≡ m.version → account_count m.balances ≤ account_count n.balances → asset_count m.balances ≤ asset_count n.balances → m.next_order ≤ n.next_order → All (IsInTime n) orders → All (IsLiveOrder m) orders → All (IsLiveOrder n) orders
live_still m n orders version accounts assets next time live k d inside =
    let o = live k d inside in
    record {
      order = o.order;
      numbered = (o.numbered.0, omega (arith, o.numbered.1, next));
      account = (o.account.0, omega (arith, o.account.1, accounts));
      legs = subst (λ v. length (slice_index_or orders k d).row ≤ (limits_of v).legs) (sym version) o.legs;
      assets = λ j e within. let there = o.assets j e within in omega (arith, there, assets);
      in_time = time k d inside;
    }

-- balances of as many accounts and assets, which cover the needs, and with the exchange hold the totals
consistent-balances : (m : Market) (new : Balances) → IsConsistent m → account_count new ≡ account_count m.balances → asset_count new ≡ asset_count m.balances
    → All (HasUnits (asset_count new)) new.accounts → length new.credits ≡ account_count new → HasLawfulCredit (with_balances m new) → CoversNeeds new m.orders → HoldsTotals (with_balances m new)
    → ((kind : Option ℕ) → IsKind new kind → total_of new kind ≤ℤ total_limit kind) → IsConsistent (with_balances m new)
consistent-balances m new consistent accounts assets one_each credits credit covered totals within = record {
  one_each = record {
    tickers = consistent.one_each.tickers ∙ sym assets;
    prices = consistent.one_each.prices ∙ sym assets;
    accounts = one_each;
    exchange = consistent.one_each.exchange ∙ sym assets;
    credits = credits;
  };
  tickers = consistent.tickers;
  live = live_still m (with_balances m new) m.orders refl (omega (arith, accounts)) (omega (arith, assets)) (omega arith) (all_in_time m m.orders consistent.live) consistent.live;
  ascending = consistent.ascending;
  covered = covered;
  credit = credit;
  totals = totals;
  widths = record { totals = within; exchange_money = consistent.widths.exchange_money; exchange_units = consistent.widths.exchange_units };
  prices = consistent.prices;
  few_assets = consistent.few_assets;
  few_accounts = omega (arith, accounts, consistent.few_accounts);
  few_orders = consistent.few_orders;
  few_batches = consistent.few_batches;
  next = consistent.next;
}

-- the same credit lines for as many assets
same_credit : (m : Market) (new : Balances) → IsConsistent m → new.credits ≡ m.balances.credits → asset_count new ≡ asset_count m.balances → HasLawfulCredit (with_balances m new)
same_credit m new consistent credits assets = record {
  lawful = rw (credits, assets) consistent.credit.lawful;
  none = λ one. rw credits (consistent.credit.none one);
}

-- an account that is there has its units
units_there : (m : Market) → IsConsistent m → (account : ℕ) → IsAccount m.balances account → HasUnits (asset_count m.balances) (account_of m.balances account)
units_there m consistent account there = consistent.one_each.accounts (account - 1) (empty_account 0) (omega (arith, there.0, there.1))

-- the money of an account changes, and still covers its needs
pub consistent-money : (m : Market) (account : ℕ) (amount : ℤ) → IsConsistent m → IsAccount m.balances account
    → needed_money m.orders account ≤ℤ (money_with_credit m.balances account +ℤ amount) → (total_of m.balances None +ℤ amount) ≤ℤ total_limit None
    → IsConsistent (with_balances m (change_balance m.balances account None amount))
consistent-money m account amount consistent there covers limit =
    let b = m.balances in
    let new = change_balance b account None amount in
    let changes = money_changes b account amount there in
    consistent-balances m new consistent changes.accounts changes.assets
    (rw changes.assets (All-set (HasUnits (asset_count b)) b.accounts (account - 1) _ (units_there m consistent account there) consistent.one_each.accounts))
    (consistent.one_each.credits ∙ sym changes.accounts) (same_credit m new consistent refl changes.assets)
    (covers_both new m.orders
    (λ k is_there.
    ⊎_elim
    (λ same. subst (λ j. needed_money m.orders j ≤ℤ money_with_credit new j) (sym same) (omega (arith, ints, changes.money, covers)))
    (λ other. let is_there_before : IsAccount b k = (is_there.0, omega (arith, is_there.1, changes.accounts)) in
    omega (arith, ints, changes.others k is_there_before other, consistent.covered k None is_there_before tt))
    (cases_eq k account))
    (λ k asset is_there is_asset.
    let is_there_before : IsAccount b k = (is_there.0, omega (arith, is_there.1, changes.accounts)) in
    omega (arith, ints, changes.units k asset, consistent.covered k (Some asset) is_there_before is_asset)))
    (holds_totals (with_balances m new) (omega (arith, ints, changes.money_sum, consistent.totals None tt))
    (λ asset is_asset. omega (arith, ints, changes.unit_sums asset, consistent.totals (Some asset) is_asset)))
    (within_limits new limit (λ asset is_asset. consistent.widths.totals (Some asset) is_asset))

-- the units of an asset in an account change, and still cover its needs
pub consistent-units : (m : Market) (account asset : ℕ) (amount : ℤ) → IsConsistent m → IsAccount m.balances account → IsAsset m.balances asset
    → needed_units m.orders account asset ≤ℤ (units_with_credit m.balances account asset +ℤ amount) → (total_of m.balances (Some asset) +ℤ amount) ≤ℤ total_limit (Some asset)
    → IsConsistent (with_balances m (change_balance m.balances account (Some asset) amount))
consistent-units m account asset amount consistent there is_asset covers limit =
    let b = m.balances in
    let new = change_balance b account (Some asset) amount in
    let both = units_change b account asset amount (consistent_is_lawful m consistent) there is_asset in
    let changes = both.0 in
    let totals = both.1 in
    let its_units : HasUnits (asset_count b) (record (account_of b account) { units = slice_set (account_of b account).units asset (units_of b account asset +ℤ amount) }) =
    length-set (account_of b account).units asset (units_of b account asset +ℤ amount) ∙ units_there m consistent account there in
    consistent-balances m new consistent changes.accounts changes.assets
    (rw changes.assets (All-set (HasUnits (asset_count b)) b.accounts (account - 1) _ its_units consistent.one_each.accounts))
    (consistent.one_each.credits ∙ sym changes.accounts) (same_credit m new consistent refl changes.assets)
    (covers_both new m.orders
    (λ k is_there.
    let is_there_before : IsAccount b k = (is_there.0, omega (arith, is_there.1, changes.accounts)) in
    omega (arith, ints, changes.money k, consistent.covered k None is_there_before tt))
    (λ k s is_there is_asset_now.
    let is_there_before : IsAccount b k = (is_there.0, omega (arith, is_there.1, changes.accounts)) in
    let is_asset_before : IsAsset b s = omega (arith, is_asset_now, changes.assets) in
    ⊎_elim
    (λ same.
    ⊎_elim
    (λ same_asset. subst (λ j. needed_units m.orders j s ≤ℤ units_with_credit new j s) (sym same)
    (subst (λ t. needed_units m.orders account t ≤ℤ units_with_credit new account t) (sym same_asset) (omega (arith, ints, changes.units, covers))))
    (λ other. subst (λ j. needed_units m.orders j s ≤ℤ units_with_credit new j s) (sym same)
    (omega (arith, ints, changes.other_assets s other, consistent.covered account (Some s) there is_asset_before)))
    (cases_eq s asset))
    (λ other. omega (arith, ints, changes.others k s is_there_before other, consistent.covered k (Some s) is_there_before is_asset_before))
    (cases_eq k account)))
    (holds_totals (with_balances m new) (omega (arith, ints, changes.money_sum, consistent.totals None tt))
    (λ s is_asset_now.
    let is_asset_before : IsAsset b s = omega (arith, is_asset_now, changes.assets) in
    ⊎_elim
    (λ same. subst (λ t. held_balance (with_balances m new) (Some t) ≡ total_of new (Some t)) (sym same) (omega (arith, ints, changes.unit_sum, totals.total, consistent.totals (Some asset) is_asset)))
    (λ other. omega (arith, ints, changes.other_sums s other, totals.others s other, consistent.totals (Some s) is_asset_before))
    (cases_eq s asset)))
    (within_limits new (omega (arith, ints, totals.money, consistent.widths.totals None tt))
    (λ s is_asset_now.
    let is_asset_before : IsAsset b s = omega (arith, is_asset_now, changes.assets) in
    ⊎_elim
    (λ same. subst (λ t. total_of new (Some t) ≤ℤ total_limit (Some t)) (sym same) (omega (arith, ints, totals.total, limit)))
    (λ other. omega (arith, ints, totals.others s other, consistent.widths.totals (Some s) is_asset_before))
    (cases_eq s asset)))

-- an account gets credit in money, in a market of another version than One
pub consistent-money_credit : (m : Market) (account ticks : ℕ) → IsConsistent m → m.version ≢ One → IsAccount m.balances account → ticks ≤ most_credit
    → needed_money m.orders account ≤ℤ (money_of m.balances account +ℤ grains ticks) → IsConsistent (with_balances m (set_credit m.balances account None ticks))
consistent-money_credit m account ticks consistent later there most covers =
    let b = m.balances in
    let new = set_credit b account None ticks in
    let lawful = consistent_is_lawful m consistent in
    let sets = money_credit_is_set b account ticks lawful there in
    let after = credits_keep_law.money b account ticks (needed_money m.orders account) (own_not_negative money_need account m.orders) lawful (record { account_there = there; kind_there = tt; within_limit = most; covers = covers }) in
    consistent-balances m new consistent refl refl consistent.one_each.accounts after.one_credit_each
    (record { lawful = after.credits; none = λ one. absurd (later one) })
    (covers_both new m.orders
    (λ k is_there.
    ⊎_elim
    (λ same. subst (λ j. needed_money m.orders j ≤ℤ money_with_credit new j) (sym same) (omega (arith, ints, sets.credit, covers)))
    (λ other. omega (arith, ints, sets.others k is_there other, consistent.covered k None is_there tt))
    (cases_eq k account))
    (λ k asset is_there is_asset. omega (arith, ints, sets.unit_credits k asset, consistent.covered k (Some asset) is_there is_asset)))
    (holds_totals (with_balances m new) (consistent.totals None tt) (λ asset is_asset. consistent.totals (Some asset) is_asset))
    (within_limits new (consistent.widths.totals None tt) (λ asset is_asset. consistent.widths.totals (Some asset) is_asset))

-- an account gets credit in an asset, in a market of another version than One
pub consistent-unit_credit : (m : Market) (account asset units : ℕ) → IsConsistent m → m.version ≢ One → IsAccount m.balances account → IsAsset m.balances asset → units ≤ most_credit
    → needed_units m.orders account asset ≤ℤ (units_of m.balances account asset +ℤ pos units) → IsConsistent (with_balances m (set_credit m.balances account (Some asset) units))
consistent-unit_credit m account asset units consistent later there is_asset most covers =
    let b = m.balances in
    let new = set_credit b account (Some asset) units in
    let lawful = consistent_is_lawful m consistent in
    let sets = unit_credit_is_set b account asset units lawful there is_asset in
    let after = credits_keep_law.units b account asset units (needed_units m.orders account asset) (own_not_negative (unit_need asset) account m.orders) lawful (record { account_there = there; kind_there = is_asset; within_limit = most; covers = covers }) in
    consistent-balances m new consistent refl refl consistent.one_each.accounts after.one_credit_each
    (record { lawful = after.credits; none = λ one. absurd (later one) })
    (covers_both new m.orders
    (λ k is_there. omega (arith, ints, sets.money_credits k, consistent.covered k None is_there tt))
    (λ k s is_there is_asset_now.
    ⊎_elim
    (λ same.
    ⊎_elim
    (λ same_asset. subst (λ j. needed_units m.orders j s ≤ℤ units_with_credit new j s) (sym same)
    (subst (λ t. needed_units m.orders account t ≤ℤ units_with_credit new account t) (sym same_asset) (omega (arith, ints, sets.credit, covers))))
    (λ other. subst (λ j. needed_units m.orders j s ≤ℤ units_with_credit new j s) (sym same)
    (omega (arith, ints, sets.other_assets s other, consistent.covered account (Some s) there is_asset_now)))
    (cases_eq s asset))
    (λ other. omega (arith, ints, sets.others k s is_there other, consistent.covered k (Some s) is_there is_asset_now))
    (cases_eq k account)))
    (holds_totals (with_balances m new) (consistent.totals None tt) (λ asset is_asset. consistent.totals (Some asset) is_asset))
    (within_limits new (consistent.widths.totals None tt) (λ asset is_asset. consistent.widths.totals (Some asset) is_asset))

-- an account is opened
pub consistent-opened : (m : Market) → IsConsistent m → account_count m.balances < 65536 → IsConsistent (with_balances m (open_account m.balances))
consistent-opened m consistent few =
    let b = m.balances in
    let new = open_account b in
    let opens = accounts_open_empty b (consistent_is_lawful m consistent) in
    record {
      one_each = record {
        tickers = consistent.one_each.tickers;
        prices = consistent.one_each.prices;
        accounts = All-push (HasUnits (asset_count b)) b.accounts (empty_account (asset_count b)) consistent.one_each.accounts (empty_units (asset_count b));
        exchange = consistent.one_each.exchange;
        credits = length_push b.credits (no_credit (asset_count b)) ∙ ap (λ n. n + 1) consistent.one_each.credits ∙ sym opens.accounts;
      };
      tickers = consistent.tickers;
      live = live_still m (with_balances m new) m.orders refl (omega (arith, opens.accounts)) (omega arith) (omega arith) (all_in_time m m.orders consistent.live) consistent.live;
      ascending = consistent.ascending;
      covered = covers_both new m.orders
          (λ k there.
          ⊎_elim
          (λ before.
          let is : IsAccount b k = (there.0, omega (arith, before)) in
          omega (arith, ints, opens.kept.money k, opens.kept.money_credits k, consistent.covered k None is tt))
          (λ last.
          let is_new : k ≡ account_count new = omega (arith, last, there.1, opens.accounts) in
          let none = own_sum-none (λ (o : Order). o.account) (λ (o : Order). pos (money_need o)) k m.orders (nobody k (omega (arith, is_new, opens.accounts))) in
          let zero_money : money_of new k ≡ pos 0 = subst (λ j. money_of new j ≡ pos 0) (sym is_new) opens.money in
          let zero_credit : money_credit_of new k ≡ 0 = subst (λ j. money_credit_of new j ≡ 0) (sym is_new) opens.money_credit in
          omega (arith, ints, none, zero_money, zero_credit))
          (cases_lt k (account_count b + 1)))
          (λ k asset there is_asset.
          ⊎_elim
          (λ before.
          let is : IsAccount b k = (there.0, omega (arith, before)) in
          omega (arith, ints, opens.kept.units k asset, opens.kept.unit_credits k asset, consistent.covered k (Some asset) is is_asset))
          (λ last.
          let is_new : k ≡ account_count new = omega (arith, last, there.1, opens.accounts) in
          let none = own_sum-none (λ (o : Order). o.account) (λ (o : Order). pos (unit_need asset o)) k m.orders (nobody k (omega (arith, is_new, opens.accounts))) in
          let zero_units : units_of new k asset ≡ pos 0 = subst (λ j. units_of new j asset ≡ pos 0) (sym is_new) (opens.units asset) in
          let zero_credit : unit_credit_of new k asset ≡ 0 = subst (λ j. unit_credit_of new j asset ≡ 0) (sym is_new) (opens.unit_credits asset) in
          omega (arith, ints, none, zero_units, zero_credit))
          (cases_lt k (account_count b + 1)));
      credit = record {
        lawful = All-push (IsLawfulCredit (asset_count b)) b.credits (no_credit (asset_count b)) consistent.credit.lawful (lawful-no_credit (asset_count b));
        none = λ one. All-push IsNoCredit b.credits (no_credit (asset_count b)) (consistent.credit.none one) (record { ticks = refl; units = All-replicate (λ (u : ℕ). u ≡ 0) (asset_count b) 0 refl });
      };
      totals = holds_totals (with_balances m new) (omega (arith, ints, opens.kept.money_sum, consistent.totals None tt))
          (λ asset is_asset. omega (arith, ints, opens.kept.unit_sums asset, consistent.totals (Some asset) is_asset));
      widths = record { totals = within_limits new (consistent.widths.totals None tt) (λ asset is_asset. consistent.widths.totals (Some asset) is_asset); exchange_money = consistent.widths.exchange_money; exchange_units = consistent.widths.exchange_units };
      prices = consistent.prices;
      few_assets = consistent.few_assets;
      few_accounts = omega (arith, opens.accounts, few);
      few_orders = consistent.few_orders;
      few_batches = consistent.few_batches;
      next = consistent.next;
    }
  where
    nobody : (k : ℕ) → account_count m.balances < k → All (λ (o : Order). o.account ≢ k) m.orders
    nobody k above i d inside same = let there = (consistent.live i d inside).account in omega (arith, there.1, same, above)

    empty_units : (n : ℕ) → HasUnits n (empty_account n)
    empty_units n = length-replicate n (pos 0)
