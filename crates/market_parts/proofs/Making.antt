-- Tickers that are added, units that are added, legs that are appended.
use Rattle.std.proofs.Common.{◌≡◌, ◌≢◌, ℕ, ◌+◌, ◌<◌, ◌≤◌, ℤ, pos, ◌+ℤ◌, List, [], ◌∷◌, ◌++◌, length, take, get_or, set, Option, Some, refl, ap, sym, subst, ◌∙◌, arith}
use Rattle.std.specs.Prelude.{IsSome, unwrap_or, slice_get}
use Rattle.std.proofs.lemmas.Int.{ints}
use Rattle.std.proofs.lemmas.List.{take_all, take_more, length_push, length-take-le, get_or-take, get_or_default}
use Rattle.std.proofs.lemmas.List.Elements.{All-push}
use Rattle.std.proofs.lemmas.List.Quantifiers.{all_pairs_push}
use Rattle.std.proofs.lemmas.Option.{get_or_from_slice_get, slice_get-get_or}
use Rattle.ticker_table.specs.Tickers.{IsTicker, AreTickers, ticker_limit}
use Rattle.ticker_table.specs.Adding.{IsAddable}
use Rattle.flow_accounts.specs.Balances.{Account, with_asset, units_in}
use Rattle.market_parts.specs.Parts.{Parts, row_of}
use Rattle.market_parts.specs.Tests.{no_order, order_at}

-- one element more of a list
pub element_more : {X : Type 0} (xs ys new : List X) (k : ℕ) (x : X) → slice_get xs k ≡ Some x → k < length xs → ys ≡ take k xs → new ≡ ys ++ x ∷ [] → new ≡ take (k + 1) xs
element_more xs ys new k x read inside taken added =
    added ∙ ap (λ zs. zs ++ x ∷ []) taken ∙ ap (λ z. take k xs ++ z ∷ []) (sym (get_or_from_slice_get xs k x x read)) ∙ sym (take_more xs k x inside)

-- the next ticker can be added
pub next_is_addable : (tickers : List (List ℕ)) (k : ℕ) (ticker : List ℕ) → AreTickers tickers → k < length tickers → slice_get tickers k ≡ Some ticker → IsAddable ticker_limit (take k tickers) ticker
next_is_addable tickers k ticker are inside read =
    let at = get_or_from_slice_get tickers k ticker ticker read in
    let counted = length-take-le k tickers (omega (arith, inside)) in
    record {
      valid = subst IsTicker at (are.valid k ticker inside);
      absent = λ has.
          let below : has.0 < k = omega (arith, has.1, counted) in
          let same = sym (get_or-take k tickers has.0 ticker below) ∙ has.2 in
          are.distinct has.0 k ticker below inside (same ∙ sym at);
      place = omega (arith, counted, inside, are.few);
    }

-- the tickers so far, and one that can be added
pub tickers_more : (old : List (List ℕ)) (ticker : List ℕ) → AreTickers old → IsAddable ticker_limit old ticker → AreTickers (old ++ ticker ∷ [])
tickers_more old ticker are addable = record {
  valid = All-push IsTicker old ticker are.valid addable.valid;
  distinct = all_pairs_push ◌≢◌ old ticker are.distinct (λ k d inside same. addable.absent (k, inside, get_or_default old k ticker d inside ∙ same));
  few = omega (arith, length_push old ticker, addable.place);
}

get_or_last : (xs : List ℤ) (y : ℤ) → get_or (xs ++ y ∷ []) (length xs) (pos 0) ≡ y
get_or_last [] y = refl
get_or_last (x ∷ xs) y = get_or_last xs y

-- the last of a list is set
set_last : (xs : List ℤ) (y z : ℤ) → set (xs ++ y ∷ []) (length xs) z ≡ xs ++ z ∷ []
set_last [] y z = refl
set_last (x ∷ xs) y z = ap (λ ys. x ∷ ys) (set_last xs y z)

-- an option that is some value
pub some_of : {T : Type 0} (o : Option T) (x : T) → o ≡ Some x → IsSome o
some_of o x is = subst IsSome (sym is) refl

pub same_some : {T : Type 0} (x y : T) → Some x ≡ Some y → x ≡ y
same_some x y same = ap (λ o. unwrap_or o x) same

-- the legs of an order that is there
pub row_read : (p : Parts) (place : ℕ) → place < length p.orders → row_of (slice_get p.orders place) ≡ (order_at p place).row
row_read p place inside = ap row_of (slice_get-get_or p.orders place no_order inside)

-- the exchange's units of one asset more
pub units_joined : (e : Account) (k : ℕ) (before wider after : Account) (x z : ℤ) → k < length e.units → slice_get e.units k ≡ Some x → z ≡ x → before ≡ record { money = e.money; units = take k e.units } → wider ≡ with_asset before
    → after ≡ record { money = wider.money +ℤ pos 0; units = set wider.units k (units_in wider k +ℤ z) } → after ≡ record { money = e.money; units = take (k + 1) e.units }
units_joined e k before wider after x z inside read same was widened added =
    let counted : length (take k e.units) ≡ k = length-take-le k e.units (omega (arith, inside)) in
    let zero_there : get_or (take k e.units ++ pos 0 ∷ []) k (pos 0) ≡ pos 0 = subst (λ n. get_or (take k e.units ++ pos 0 ∷ []) n (pos 0) ≡ pos 0) counted (get_or_last (take k e.units) (pos 0)) in
    let money : e.money +ℤ pos 0 ≡ e.money = omega (arith, ints) in
    let sum : get_or (take k e.units ++ pos 0 ∷ []) k (pos 0) +ℤ z ≡ x = omega (arith, ints, zero_there, same) in
    let placed : set (take k e.units ++ pos 0 ∷ []) k x ≡ take k e.units ++ x ∷ [] = subst (λ n. set (take k e.units ++ pos 0 ∷ []) n x ≡ take k e.units ++ x ∷ []) counted (set_last (take k e.units) (pos 0) x) in
    let more : take k e.units ++ x ∷ [] ≡ take (k + 1) e.units = ap (λ y. take k e.units ++ y ∷ []) (sym (get_or_from_slice_get e.units k x (pos 0) read)) ∙ sym (take_more e.units k (pos 0) inside) in
    added ∙ rw (widened, was, money, sum, placed, more) refl

pub all_units_joined : (e : Account) (k : ℕ) (all : Account) → length e.units ≤ k → all ≡ record { money = e.money; units = take k e.units } → all ≡ e
all_units_joined e k all whole is = is ∙ ap (λ units. record { money = e.money; units = units }) (take_all k e.units whole)
