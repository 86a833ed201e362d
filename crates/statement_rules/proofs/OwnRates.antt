-- The rates in a statement are those that were published.
use Rattle.std.proofs.Common.{◌≡◌, ◌⊎◌, inl, inr, ℕ, zero, suc, true, false, List, [], ◌∷◌, length, map, refl, sym, ap, subst, ◌∙◌, arith}
use Rattle.std.specs.Prelude.{All, Contains, ◌==◌}
use Rattle.std.proofs.lemmas.Bool.{cases_Bool}
use Rattle.std.proofs.lemmas.List.{length-map}
use Rattle.std.proofs.lemmas.List.Elements.{All-filter, All-map, All-contains_itself}
use Rattle.flow_orders.specs.Orders.{Order}
use Rattle.flow_orders.specs.Outcomes.{Fill, trades_of, fill_of}
use Rattle.flow_orders.specs.Trades.{Trade, trades, trader}
use Rattle.statement_rules.specs.Views.{own_trades}
use Rattle.statement_rules.specs.Holdings.{own_orders}
use Rattle.statement_rules.specs.Laws.{OwnRatesArePublished}

-- the numbers of own trades are those of the own orders
own_numbers : (account : ℕ) (orders : List Order) (rates : List ℕ) → length rates ≡ length orders
    → map (λ (f : Fill). f.order) (map fill_of (own_trades account (trades orders rates))) ≡ map (λ (o : Order). o.number) (own_orders account orders)
own_numbers account [] rates same = refl
own_numbers account (o ∷ orders) [] same = absurd (omega (arith, same))
own_numbers account (o ∷ orders) (rate ∷ rates) same = by (own_numbers account orders rates (omega (arith, same))) (cases_Bool (o.account == account))
  where
    by : map (λ (f : Fill). f.order) (map fill_of (own_trades account (trades orders rates))) ≡ map (λ (x : Order). x.number) (own_orders account orders)
        → ((o.account == account) ≡ true) ⊎ ((o.account == account) ≡ false)
        → map (λ (f : Fill). f.order) (map fill_of (own_trades account (trades (o ∷ orders) (rate ∷ rates)))) ≡ map (λ (x : Order). x.number) (own_orders account (o ∷ orders))
    by rest (inl one) = rw one (ap (λ l. o.number ∷ l) rest)
    by rest (inr one) = rw one rest

heads : (a b : ℕ) (x y : List ℕ) → a ∷ x ≡ b ∷ y → (a ≡ b) × (x ≡ y)
heads a b x y e = (cc, cc)

-- the fills of all trades are those that were published
fills_again : (orders : List Order) (fills : List Fill) → map (λ (f : Fill). f.order) fills ≡ map (λ (o : Order). o.number) orders → map fill_of (trades_of orders fills) ≡ fills
fills_again [] [] same = refl
fills_again [] (f ∷ fills) same = absurd cc
fills_again (o ∷ orders) [] same = absurd cc
fills_again (o ∷ orders) (f ∷ fills) same =
    let both = heads f.order o.number (map (λ (g : Fill). g.order) fills) (map (λ (x : Order). x.number) orders) same in
    let here : ◌≡◌ {A = Fill} (record { order = o.number; rate = f.rate }) f = ap (λ n. record { order = n; rate = f.rate }) (sym both.0) in
    ap (λ (x : Fill). x ∷ map fill_of (trades_of orders fills)) here ∙ ap (λ l. f ∷ l) (fills_again orders fills both.1)

-- what holds of all that a function makes
of_map : {X Y : Type 0} (P : Y → Type 0) (f : X → Y) (xs : List X) → All P (map f xs) → All (λ x. P (f x)) xs
of_map P f [] all k d inside = absurd (omega (arith, inside))
of_map P f (x ∷ xs) all zero d inside = all zero (f d) (omega arith)
of_map P f (x ∷ xs) all (suc k) d inside = of_map P f xs (λ j e within. all (suc j) e (omega (arith, within))) k d (omega (arith, inside))

pub own_rates_are_published : OwnRatesArePublished
own_rates_are_published = record {
  numbers = λ account m c right. own_numbers account m.orders (map (λ (f : Fill). f.rate) c.fills)
      (length-map c.fills (λ (f : Fill). f.rate) ∙ sym (length-map c.fills (λ (f : Fill). f.order)) ∙ ap length right.numbers ∙ length-map m.orders (λ (o : Order). o.number));
  published = λ account m c right.
      let ts = trades_of m.orders c.fills in
      let all : All (λ (f : Fill). Contains c.fills f) (map fill_of ts) = subst (λ l. All (λ (f : Fill). Contains c.fills f) l) (sym (fills_again m.orders c.fills right.numbers)) (All-contains_itself c.fills) in
      All-map (Contains c.fills) fill_of (own_trades account ts) (All-filter (λ t. trader t == account) (λ (t : Trade). Contains c.fills (fill_of t)) ts (of_map (Contains c.fills) fill_of ts all));
}
