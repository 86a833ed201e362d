-- What an account's own orders traded, collected along their chain.
use Rattle.std.proofs.Common.{◌≡◌, ◌⊎◌, inl, inr, ℕ, zero, suc, ◌+◌, ◌-◌, ◌<◌, ◌≤◌, Bool, true, false, ℤ, pos, List, [], ◌∷◌, ◌++◌, length, map, get_or, refl, sym, ap, ◌∙◌, arith}
use Rattle.std.specs.Prelude.{◌==◌}
use Rattle.std.specs.List.{filter, range_with_len}
use Rattle.std.proofs.lemmas.Bool.{cases_Bool}
use Rattle.std.proofs.lemmas.List.{append_assoc, append-nil, get_or_default, length-append}
use Rattle.std.proofs.lemmas.List.Sums.{length-filter, count_by-le-length}
use Rattle.std.proofs.lemmas.List.FromFn.{length-range_with_len}
use Rattle.std.proofs.lemmas.Simd.{map-map}
use Rattle.flow_orders.specs.Orders.{Order}
use Rattle.flow_orders.specs.Outcomes.{Fill, Clearing, trades_of}
use Rattle.flow_orders.specs.Trades.{Trade}
use Rattle.statement_rules.specs.Views.{own_trades}
use Rattle.statement_rules.proofs.Lists.{filter_map_is}
use Rattle.answer_text.specs.declared.fills.FillCost.{FillCost}
use Rattle.desk_messages.specs.Messages.{cost_of, own_costs}
use Rattle.desk_messages.specs.Private.{owners, own_places, IsChain, AreLinked, rate_in}

-- the value at a place that has no order
pub no_order : Order
no_order = record { number = 0; account = 0; low = pos 0; high = pos 0; rate = 0; cap = 0; filled = 0; row = []; last = 0 }

-- the trade of the order at a place
abbrev pub trade_at : List Order → List Fill → ℕ → Trade
trade_at orders fills place = record { order = get_or orders place no_order; traded = rate_in fills place }

-- what the order at a place traded, and what that costs
abbrev pub cost_at : List Order → Clearing → ℕ → FillCost
cost_at orders c place = cost_of c.prices (trade_at orders c.fills place)

-- numbers from one more on
shifted : (a n : ℕ) → range_with_len (a + 1) n ≡ map suc (range_with_len a n)
shifted a zero = refl
shifted a (suc n) = ap (λ l. (a + 1) ∷ l) (shifted (a + 1) n) ∙ ap (λ k. k ∷ map suc (range_with_len (a + 1) n)) (omega arith)

-- own trades are those of the orders at the own places
pub own_by_places : (account : ℕ) (orders : List Order) (fills : List Fill) → length fills ≡ length orders
    → own_trades account (trades_of orders fills) ≡ map (trade_at orders fills) (own_places account (owners orders) 0 (length orders))
own_by_places account [] fills same = refl
own_by_places account (o ∷ orders) [] same = absurd (omega (arith, same))
own_by_places account (o ∷ orders) (f ∷ fills) same = by (own_by_places account orders fills (omega (arith, same))) (cases_Bool (o.account == account))
  where
    at : ℕ → Trade
    at = trade_at (o ∷ orders) (f ∷ fills)

    p : ℕ → Bool
    p place = get_or (owners (o ∷ orders)) place 0 == account

    later : own_trades account (trades_of orders fills) ≡ map (trade_at orders fills) (own_places account (owners orders) 0 (length orders))
        → own_trades account (trades_of orders fills) ≡ map at (filter p (range_with_len 1 (length orders)))
    later rest =
        rest ∙ sym (map-map at suc (own_places account (owners orders) 0 (length orders)))
        ∙ ap (map at) (sym (filter_map_is suc p (range_with_len 0 (length orders))) ∙ ap (filter p) (sym (shifted 0 (length orders))))

    by : own_trades account (trades_of orders fills) ≡ map (trade_at orders fills) (own_places account (owners orders) 0 (length orders))
        → ((o.account == account) ≡ true) ⊎ ((o.account == account) ≡ false)
        → own_trades account (trades_of (o ∷ orders) (f ∷ fills)) ≡ map (trade_at (o ∷ orders) (f ∷ fills)) (own_places account (owners (o ∷ orders)) 0 (length (o ∷ orders)))
    by rest (inl one) = rw one (ap (λ (l : List Trade). record { order = o; traded = f.rate } ∷ l) (later rest))
    by rest (inr one) = rw one (later rest)

-- the costs of own trades are those of the orders at the own places
costs_by_places : (account : ℕ) (orders : List Order) (c : Clearing) → length c.fills ≡ length orders
    → map (cost_at orders c) (own_places account (owners orders) 0 (length orders)) ≡ own_costs account orders c
costs_by_places account orders c same =
    sym (map-map (cost_of c.prices) (trade_at orders c.fills) (own_places account (owners orders) 0 (length orders)))
    ∙ ap (map (cost_of c.prices)) (sym (own_by_places account orders c.fills same))

-- what was computed at a place is the cost there
pub cost_here : (orders : List Order) (c : Clearing) (place : ℕ) (prices : List ℤ) (o : Order) (rate : ℕ) (fill : FillCost) → place < length orders → o ≡ get_or orders place o
    → rate ≡ rate_in c.fills place → prices ≡ c.prices → fill ≡ cost_of prices (record { order = o; traded = rate }) → fill ≡ cost_at orders c place
cost_here orders c place prices o rate fill inside is rate_is prices_are fill_is =
    let order_is : o ≡ get_or orders place no_order = is ∙ get_or_default orders place o no_order inside in
    fill_is ∙ ap (λ ps. cost_of ps (record { order = o; traded = rate })) prices_are ∙ ap (λ r. cost_of c.prices (record { order = o; traded = r })) rate_is
    ∙ ap (λ x. cost_of c.prices (record { order = x; traded = rate_in c.fills place })) order_is

-- these costs were collected, and those of the chain from `first` on are left
pub record IsCollecting (account : ℕ) (orders : List Order) (c : Clearing) (nexts : List ℕ) (first : ℕ) (own : List FillCost) : Type 0 where
  pub left : List ℕ
  pub chain : IsChain (length orders) nexts first left
  pub costs : own ++ map (cost_at orders c) left ≡ own_costs account orders c
  pub few : length own + length left ≤ length orders

pub none_collected : (account : ℕ) (orders : List Order) (c : Clearing) (accounts : ℕ) (firsts nexts : List ℕ) → AreLinked orders accounts firsts nexts → account < accounts → length c.fills ≡ length orders
    → IsCollecting (account + 1) orders c nexts (get_or firsts account 0) []
none_collected account orders c accounts firsts nexts linked inside same =
    let p : ℕ → Bool = λ place. get_or (owners orders) place 0 == account + 1 in
    record {
      left = own_places (account + 1) (owners orders) 0 (length orders);
      chain = linked.chains account inside;
      costs = costs_by_places (account + 1) orders c same;
      few = omega (arith, length-filter p (range_with_len 0 (length orders)), count_by-le-length p (range_with_len 0 (length orders)), length-range_with_len 0 (length orders));
    }

-- the order that a chain begins with
pub record IsAtOrder (count : ℕ) (nexts : List ℕ) (first own : ℕ) : Type 0 where
  pub within : first ≤ count
  pub inside : first - 1 < length nexts
  pub nearer : get_or nexts (first - 1) 0 < first
  pub room : own < count

pub at_order : (account : ℕ) (orders : List Order) (c : Clearing) (nexts : List ℕ) (first : ℕ) (own : List FillCost) → IsCollecting account orders c nexts first own → 0 < first
    → IsAtOrder (length orders) nexts first (length own)
at_order account orders c nexts first own before some = by before.left before.chain before.few
  where
    by : (left : List ℕ) → IsChain (length orders) nexts first left → length own + length left ≤ length orders → IsAtOrder (length orders) nexts first (length own)
    by [] chain few = absurd (omega (arith, chain, some))
    by (place ∷ more) chain few = record {
      within = omega (arith, chain.0);
      inside = omega (arith, chain.1, chain.2);
      nearer = chain.3;
      room = omega (arith, few);
    }

pub one_collected : (account : ℕ) (orders : List Order) (c : Clearing) (nexts : List ℕ) (first : ℕ) (own : List FillCost) → IsCollecting account orders c nexts first own → 0 < first
    → IsCollecting account orders c nexts (get_or nexts (first - 1) 0) (own ++ cost_at orders c (length orders - first) ∷ [])
one_collected account orders c nexts first own before some = by before.left before.chain before.costs before.few
  where
    by : (left : List ℕ) → IsChain (length orders) nexts first left → own ++ map (cost_at orders c) left ≡ own_costs account orders c → length own + length left ≤ length orders
        → IsCollecting account orders c nexts (get_or nexts (first - 1) 0) (own ++ cost_at orders c (length orders - first) ∷ [])
    by [] chain costs few = absurd (omega (arith, chain, some))
    by (place ∷ more) chain costs few =
        let here : length orders - first ≡ place = omega (arith, chain.0) in
        record {
          left = more;
          chain = chain.4;
          costs = append_assoc own (cost_at orders c (length orders - first) ∷ []) (map (cost_at orders c) more) ∙ ap (λ k. own ++ cost_at orders c k ∷ map (cost_at orders c) more) here ∙ costs;
          few = omega (arith, few, length-append own (cost_at orders c (length orders - first) ∷ []));
        }

pub all_collected : (account : ℕ) (orders : List Order) (c : Clearing) (nexts : List ℕ) (own : List FillCost) → IsCollecting account orders c nexts 0 own → own ≡ own_costs account orders c
all_collected account orders c nexts own before = by before.left before.chain before.costs
  where
    by : (left : List ℕ) → IsChain (length orders) nexts 0 left → own ++ map (cost_at orders c) left ≡ own_costs account orders c → own ≡ own_costs account orders c
    by [] chain costs = sym (append-nil own) ∙ costs
    by (place ∷ more) chain costs = absurd (omega (arith, chain.1))
