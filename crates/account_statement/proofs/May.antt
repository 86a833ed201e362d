-- What may be done to what a statement holds, if a market answers so.
use Rattle.std.proofs.Common.{◌≡◌, ◌⊎◌, inl, inr, ℕ, zero, suc, ◌<◌, ◌≤◌, ◌+◌, Bool, true, false, not, if◌then◌else◌, ◌&&◌, ℤ, neg_ℤ, ◌+ℤ◌, ◌-ℤ◌, List, [], ◌∷◌, map, length, Option, Some, None, Ok, refl, sym, ap, subst, ◌∙◌, arith}
use Rattle.std.specs.Prelude.{All, Contains, ◌==◌, slice_index_or}
use Rattle.std.specs.List.{filter}
use Rattle.std.proofs.lemmas.Bool.{cases_Bool, eq-eqb, eqb-true, and_parts}
use Rattle.std.proofs.lemmas.List.{length-map}
use Rattle.std.proofs.lemmas.List.Elements.{All-filter}
use Rattle.std.proofs.lemmas.List.Filters.{length-filter_both}
use Rattle.list_sums.specs.Sums.{int_sum_by}
use Rattle.weight_rows.specs.Rows.{IsPricedBy}
use Rattle.demand_curve.proofs.RoundingLaws.{rounding_is_within_room}
use Rattle.wire_records.specs.Commands.{Request, Command, AddAsset, OpenAccount, Deposit, Withdraw, Place, CancelOrder, RunBatch, SetCredit, Answer, Plain, Batch}
use Rattle.wire_records.specs.declared.reply.Reply.{Reply}
use Rattle.wire_records.specs.declared.reply.Reply.TheVariants as reply
use Rattle.wire_records.specs.declared.reply.Refusal.{Refusal}
use Rattle.flow_accounts.specs.Balances.{IsAccount, IsAsset, IsKind, account_count, asset_count, value_of}
use Rattle.flow_accounts.specs.Lawful.{IsMoneyBalance, IsUnitBalance}
use Rattle.flow_orders.specs.Orders.{Order, most_orders, terms_of}
use Rattle.flow_orders.specs.Excess.{price_for}
use Rattle.flow_orders.specs.Outcomes.{Fill, Clearing, Outcome, Cleared, trades_of, IsAdmissibleOutcome, IsAdmissibleClearing}
use Rattle.flow_orders.specs.Trades.{Trade, trader, paid, received}
use Rattle.flow_orders.proofs.TradeFacts.{All-trades}
use Rattle.order_book.specs.Book.{HasOrder}
use Rattle.ticker_table.specs.Tickers.{ticker_limit}
use Rattle.ticker_table.specs.Adding.{IsAddable}
use Rattle.wire_records.specs.Limits.{limits_of}
use Rattle.market_rules.proofs.VersionLimits.{assets_within, orders_within}
use Rattle.market_rules.specs.Market.{Market, IsConsistent, IsLiveOrder, start_prices}
use Rattle.market_rules.specs.Step.{FirstRefusal, Accepts, Serves}
use Rattle.market_rules.proofs.ByFirst.{Answers}
use Rattle.market_rules.proofs.Accepted.{past_unless, past_when, not_least}
use Rattle.market_rules.proofs.Lawful.{money_of_each, units_of_each}
use Rattle.market_rules.proofs.LawProofs.{batch_of}
use Rattle.statement_rules.specs.Views.{Event, Adds, Opens, Deposits, Withdraws, Credits, Places, Cancels, Refuses, Clears, event_if, seen_plain, is_there, own_trades, own_fills}
use Rattle.statement_rules.specs.Holdings.{Holding, IsHeld, changed, after, after_all}
use Rattle.statement_rules.proofs.Told.{told, is_account}
use Rattle.statement_rules.proofs.OwnParts.{own_again}
use Rattle.account_statement.specs.Telling.{Statement, holding_of}
use Rattle.account_statement.specs.Private.{IsServed, fills_for, trades_for, MayPlace, MayChange, MayTake, HasOwn, MayClear, IsListed}
use Rattle.account_statement.proofs.OwnRates.{fills_ascend, all_listed, trades_found}
use Rattle.account_statement.proofs.Agreeing.{own_fills_are}

-- an element that passes is among those that pass
contains_filter : {X : Type 0} (p : X → Bool) (xs : List X) (x : X) → Contains xs x → p x ≡ true → Contains (filter p xs) x
contains_filter p [] x (k, inside, is) pass = absurd (omega (arith, inside))
contains_filter p (y ∷ xs) x (zero, inside, is) pass = let here : p y ≡ true = ap p is ∙ pass in rw here (zero, omega arith, is)
contains_filter p (y ∷ xs) x (suc k, inside, is) pass = by (contains_filter p xs x (k, omega (arith, inside), is) pass) (cases_Bool (p y))
  where
    by : Contains (filter p xs) x → (p y ≡ true) ⊎ (p y ≡ false) → Contains (filter p (y ∷ xs)) x
    by (j, within, found) (inl one) = rw one (suc j, omega (arith, within), found)
    by found (inr one) = rw one found

-- no more elements pass than there are
few_pass : {X : Type 0} (p : X → Bool) (xs : List X) → length (filter p xs) ≤ length xs
few_pass p xs = let both = length-filter_both p (λ x. not (p x)) (λ x. refl) xs in omega (arith, both)

-- an event that is seen
event_is : (b : Bool) (x e : Event) → event_if b x ≡ e ∷ [] → (b ≡ true) × (x ≡ e)
event_is true x e same = (refl, cc)
event_is false x e same = absurd cc

plain_is : (x y : Reply) → ◌≡◌ {A = Answer Outcome} (Plain x) (Plain y) → x ≡ y
plain_is x y e = cc

no_events : (e : Event) → ◌≡◌ {A = List Event} [] (e ∷ []) → ⊥
no_events e same = cc

one_event : (x e : Event) → x ∷ [] ≡ e ∷ [] → x ≡ e
one_event x e same = cc

module _ (account : ℕ) (m n : Market) (h : Holding) (consistent : IsConsistent m) (consistent_next : IsConsistent n) (held : IsHeld account m h) (open_now : h.is_open ≡ true) where
  -- a holding after the step that is open is that of an account
  there_in : (g : Holding) → IsHeld account n g → g.is_open ≡ true → IsAccount n.balances account
  there_in g is open_then = is_account n account (sym is.opened ∙ open_then)

  money_fits : (g : Holding) → IsHeld account n g → g.is_open ≡ true → IsMoneyBalance g.money
  money_fits g is open_then =
      let there = there_in g is open_then in
      subst IsMoneyBalance (sym (is.money there.0)) (money_of_each n consistent_next account there)

  units_fit : (g : Holding) (asset : ℕ) → IsHeld account n g → g.is_open ≡ true → asset < length g.tickers → IsUnitBalance (g.units asset)
  units_fit g asset is open_then inside =
      let there = there_in g is open_then in
      let is_asset : IsAsset n.balances asset = omega (arith, inside, ap length is.tickers, consistent_next.one_each.tickers) in
      subst IsUnitBalance (sym (is.units there.0 asset is_asset)) (units_of_each n consistent_next asset is_asset account there)

  -- an asset of the market is one of the statement
  asset_held : (asset : ℕ) → IsAsset m.balances asset → asset < length h.tickers
  asset_held asset is = omega (arith, is, ap length held.tickers, consistent.one_each.tickers)

  one_changed : (asset : ℕ) (amount : ℤ) → (changed h (Some asset) amount).units asset ≡ h.units asset +ℤ amount
  one_changed asset amount = ap (λ b. if b then h.units asset +ℤ amount else h.units asset) (eq-eqb asset asset refl)

  -- an amount may be added if the account has it after the step
  may_change : (kind : Option ℕ) (amount : ℤ) → IsKind m.balances kind → IsHeld account n (changed h kind amount) → MayChange h kind amount
  may_change None amount there is = money_fits (changed h None amount) is open_now
  may_change (Some asset) amount there is =
      let inside = asset_held asset there in
      (inside, subst IsUnitBalance (one_changed asset amount) (units_fit (changed h (Some asset) amount) asset is open_now inside))

  above_all : (number : ℕ) → number ≡ m.next_order → All (λ (o : Order). o.number < number) h.orders
  above_all number is_next =
      subst (All (λ (o : Order). o.number < number)) (sym held.orders)
      (All-filter (λ (o : Order). o.account == account) (λ (o : Order). o.number < number) m.orders
      (λ k d inside. let live = consistent.live k d inside in omega (arith, live.numbered.1, is_next)))

  few_orders : length m.orders < most_orders → length h.orders < most_orders
  few_orders few = omega (arith, few, few_pass (λ (o : Order). o.account == account) m.orders, ap length held.orders)

  may_place : (last : Option ℕ) (r : Request) → r.account ≡ account → FirstRefusal m (Place last r) None → MayPlace account h m.next_order r
  may_place last r own none =
      let one = past_unless none in
      let two = past_unless one.1 in
      let three = past_unless two.1 in
      let four = past_unless three.1 in
      let five = past_unless (past_unless four.1).1 in
      let six = past_unless five.1 in
      let seven = past_when six.1 in
      record {
        own = own;
        limits = two.0;
        rate = three.0;
        cap = four.0;
        row = five.0.0;
        few = few_orders (omega (arith, not_least (limits_of m.version).orders (length m.orders) seven.0, orders_within m.version));
        above = above_all m.next_order refl;
      }

  may_cancel : (number : ℕ) → FirstRefusal m (CancelOrder account number) None → HasOrder h.orders account number
  may_cancel number none =
      let has = (past_unless (past_unless none).1).0 in
      subst (λ l. HasOrder l account number) (sym held.orders) (record {
        order = has.order;
        live = contains_filter (λ (o : Order). o.account == account) m.orders has.order has.live (eq-eqb has.order.account account has.account_is);
        account_is = has.account_is;
        number_is = has.number_is;
      })

  -- the account is there
  is_open_there : is_there m account ≡ true
  is_open_there = sym held.opened ∙ open_now

  own_part : (c : Clearing) → IsAdmissibleClearing m.orders (start_prices m) c → HasOwn h.orders c
  own_part c right = record {
    few = omega (arith, consistent.few_orders, orders_within m.version, few_pass (λ (o : Order). o.account == account) m.orders, ap length held.orders);
    ascending = fills_ascend m.orders c.fills right.numbers consistent.ascending;
    listed = own (λ (o : Order). IsListed c.fills o.number) (all_listed m.orders c.fills right.numbers);
    small = right.small;
    priced = own (λ (o : Order). IsPricedBy o.row c.prices) (λ k d inside j e within. let there = (consistent.live k d inside).assets j e within in omega (arith, there, prices));
    within = subst (All (λ (t : Trade). t.traded ≤ (terms_of t.order).room)) own_trades_are
        (All-filter (λ t. trader t == account) (λ (t : Trade). t.traded ≤ (terms_of t.order).room) (trades_of m.orders c.fills)
        (λ k d inside.
        let t = slice_index_or (trades_of m.orders c.fills) k d in
        rounding_is_within_room (terms_of t.order) (live k d inside).order.terms (price_for c.prices t.order) t.traded (right.roundings k d inside)));
  }
    where
      own : (P : Order → Type 0) → All P m.orders → All P h.orders
      own P all = subst (All P) (sym held.orders) (All-filter (λ (o : Order). o.account == account) P m.orders all)

      prices : length c.prices ≡ asset_count m.balances
      prices = right.one_price_each ∙ length-map m.last_prices _ ∙ consistent.one_each.prices

      live : All (λ (t : Trade). IsLiveOrder m t.order) (trades_of m.orders c.fills)
      live = All-trades (IsLiveOrder m) m.orders (map (λ (f : Fill). f.rate) c.fills) consistent.live

      own_trades_are : own_trades account (trades_of m.orders c.fills) ≡ trades_for c.fills h.orders
      own_trades_are =
          sym (own_again account m.orders (map (λ (f : Fill). f.rate) c.fills))
          ∙ ap (λ l. trades_of l (own_fills account m c)) (sym held.orders)
          ∙ ap (trades_of h.orders) (own_fills_are account m h c consistent held right)
          ∙ trades_found c.fills h.orders

  pub may_clear : (c : Command) (batch : ℕ) (k : Clearing) → Serves IsAdmissibleOutcome m c (Batch batch (Cleared k)) n → MayClear h k
  may_clear c batch k serves = record {
    own = own_part k right;
    assets = ap length held.tickers ∙ consistent.one_each.tickers ∙ sym prices;
    money = subst (λ ts. IsMoneyBalance (h.money -ℤ int_sum_by (paid k.prices) ts)) (trades_found k.fills h.orders) (money_fits g is open_now);
    units = λ asset inside. subst (λ ts. IsUnitBalance (h.units asset +ℤ int_sum_by (received asset) ts)) (trades_found k.fills h.orders) (units_fit g asset is open_now inside);
  }
    where
      right : IsAdmissibleClearing m.orders (start_prices m) k
      right = (batch_of IsAdmissibleOutcome m c batch (Cleared k) n serves).ruled

      prices : length k.prices ≡ asset_count m.balances
      prices = right.one_price_each ∙ length-map m.last_prices _ ∙ consistent.one_each.prices

      g : Holding
      g = after h (Clears batch k.prices (fills_for k.fills h.orders))

      is : IsHeld account n g
      is = subst (λ l. IsHeld account n (after_all h l))
          (ap (λ fills. event_if (is_there m account) (Clears batch k.prices fills)) (own_fills_are account m h k consistent held right)
          ∙ ap (λ b. event_if b (Clears batch k.prices (fills_for k.fills h.orders))) is_open_there)
          (told account m h consistent held (Ok c) (Batch batch (Cleared k)) n serves)

-- a refusal may be taken
refused_may : (account : ℕ) (h : Holding) (c : Command) (r : Refusal) (e : Event) → seen_plain account h.is_open c (reply.Refused r) ≡ e ∷ [] → MayTake account h e
refused_may account h (AddAsset ticker) r e is = absurd (no_events e is)
refused_may account h OpenAccount r e is = absurd (no_events e is)
refused_may account h (RunBatch budget) r e is = absurd (no_events e is)
refused_may account h command r e is = subst (MayTake account h) (event_is _ (Refuses command r) e is).1 tt

module _ (account : ℕ) (m n : Market) (h : Holding) (consistent : IsConsistent m) (consistent_next : IsConsistent n) (held : IsHeld account m h) where
  -- an event that is seen of a command of the account's own
  own_event : (named : ℕ) (x e : Event) → event_if (h.is_open && (named == account)) x ≡ e ∷ [] → (h.is_open ≡ true) × (named ≡ account) × (x ≡ e)
  own_event named x e is =
      let both = event_is (h.is_open && (named == account)) x e is in
      let parts = and_parts h.is_open (named == account) both.0 in
      (parts.0, eqb-true named account parts.1, both.1)

  -- what is seen of a command that was answered so
  seen_as : (c : Command) (answer given : Reply) (e : Event) → seen_plain account h.is_open c answer ≡ e ∷ [] → ◌≡◌ {A = Answer Outcome} (Plain answer) (Plain given) → seen_plain account h.is_open c given ≡ e ∷ []
  seen_as c answer given e is same = subst (λ x. seen_plain account h.is_open c x ≡ e ∷ []) (plain_is answer given same) is

  -- the change of an amount may be made
  amount_may : (named : ℕ) (x e : Event) (kind : Option ℕ) (amount : ℤ) → IsKind m.balances kind → (MayChange h kind amount → MayTake account h x) → after h x ≡ changed h kind amount
      → event_if (h.is_open && (named == account)) x ≡ e ∷ [] → IsHeld account n (after h e) → MayTake account h e
  amount_may named x e kind amount there may made is next =
      let own = own_event named x e is in
      subst (MayTake account h) own.2
      (may (may_change account m n h consistent consistent_next held own.0 kind amount there (subst (IsHeld account n) (ap (after h) (sym own.2) ∙ made) next)))

  accepted_may : (c : Command) (answer : Reply) (e : Event) → FirstRefusal m c None → Accepts IsAdmissibleOutcome m c (Plain answer) n → seen_plain account h.is_open c answer ≡ e ∷ [] → IsHeld account n (after h e) → MayTake account h e
  accepted_may (AddAsset ticker) answer e none accepts is next =
      let one = past_unless none in
      let two = past_when one.1 in
      let three = past_when two.1 in
      subst (MayTake account h) (one_event (Adds ticker) e (seen_as (AddAsset ticker) answer (reply.Asset (length m.tickers)) e is accepts.0))
      (subst (λ l. IsAddable ticker_limit l ticker) (sym held.tickers) (record { valid = one.0; absent = two.0; place = omega (arith, not_least (limits_of m.version).assets (length m.tickers) three.0, assets_within m.version) }))
  accepted_may OpenAccount answer e none accepts is next =
      subst (MayTake account h) (event_is _ (Opens account) e (seen_as OpenAccount answer (reply.Account (account_count m.balances + 1)) e is accepts.0)).1 tt
  accepted_may (Deposit named kind count) answer e none accepts is next =
      amount_may named (Deposits kind count) e kind (value_of kind count) (past_unless (past_unless none).1).0 (λ may. may) refl (seen_as (Deposit named kind count) answer reply.Done e is accepts.0) next
  accepted_may (Withdraw named kind count) answer e none accepts is next =
      amount_may named (Withdraws kind count) e kind (neg_ℤ (value_of kind count)) (past_unless (past_unless none).1).0 (λ may. may) refl (seen_as (Withdraw named kind count) answer reply.Done e is accepts.0) next
  accepted_may (Place last r) answer e none accepts is next =
      let own = own_event r.account (Places m.next_order last r) e (seen_as (Place last r) answer (reply.Order m.next_order) e is accepts.0) in
      subst (MayTake account h) own.2 (may_place account m n h consistent consistent_next held own.0 last r own.1 none)
  accepted_may (CancelOrder named number) answer e none accepts is next =
      let own = own_event named (Cancels number) e (seen_as (CancelOrder named number) answer reply.Done e is accepts.0) in
      subst (MayTake account h) own.2 (may_cancel account m n h consistent consistent_next held own.0 number (subst (λ k. FirstRefusal m (CancelOrder k number) None) own.1 none))
  accepted_may (RunBatch budget) answer e none accepts is next = absurd (no_events e is)
  accepted_may (SetCredit named kind count) answer e none accepts is next =
      subst (MayTake account h) (own_event named (Credits kind count) e (seen_as (SetCredit named kind count) answer reply.Done e is accepts.0)).2 tt

  pub may_take : (c : Command) (answer : Reply) (e : Event) → Serves IsAdmissibleOutcome m c (Plain answer) n → seen_plain account h.is_open c answer ≡ e ∷ [] → MayTake account h e
  may_take c answer e serves is = by serves.first serves.refused serves.answered
    where
      next : IsHeld account n (after h e)
      next = subst (λ l. IsHeld account n (after_all h l)) (ap (λ b. seen_plain account b c answer) (sym held.opened) ∙ is) (told account m h consistent held (Ok c) (Plain answer) n serves)

      by : (first : Option Refusal) → FirstRefusal m c first → Answers IsAdmissibleOutcome m c first (Plain answer) n → MayTake account h e
      by (Some r) refused answered = refused_may account h c r e (seen_as c answer (reply.Refused r) e is answered.0)
      by None refused answered = accepted_may c answer e refused answered is next

-- what an account sees of a command may be taken
pub may_take_own : (s : Statement) (c : Command) (answer : Reply) (e : Event) → IsServed s c (Plain answer) → seen_plain s.account s.is_open c answer ≡ e ∷ [] → MayTake s.account (holding_of s) e
may_take_own s c answer e served is = may_take s.account served.market served.next (holding_of s) served.consistent served.consistent_next served.agrees c answer e served.served is

pub may_clear_own : (s : Statement) (c : Command) (batch : ℕ) (k : Clearing) → IsServed s c (Batch batch (Cleared k)) → s.is_open ≡ true → MayClear (holding_of s) k
may_clear_own s c batch k served open_now =
    may_clear s.account served.market served.next (holding_of s) served.consistent served.consistent_next served.agrees open_now c batch k served.served
