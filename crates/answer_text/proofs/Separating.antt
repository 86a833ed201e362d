-- Texts with commas between them, the orders of an account one after the other, and limits in ticks.
use Rattle.std.proofs.Common.{◌≡◌, ◌+◌, ◌^◌, ◌≤◌, ℕ, ℤ, pos, negsuc, Bool, not, List, [], ◌∷◌, ◌++◌, length, codes, refl, sym, ap, ◌∙◌, arith, eqb, length-append}
use Rattle.std.proofs.lemmas.Bool.{eq-eqb}
use Rattle.std.proofs.lemmas.Int.{ints}
use Rattle.std.proofs.lemmas.List.{append-nil, append_assoc, flat_map_more}
use Rattle.std.proofs.lemmas.List.Filters.{length-filter_both}
use Rattle.flow_orders.specs.Orders.{Order, most_orders, price_of_ticks}
use Rattle.flow_orders.proofs.Limits.{orders_fit}
use Rattle.pair_text.specs.Texts.{◌then◌}
use Rattle.answer_text.specs.Texts.{comma, separated}
use Rattle.answer_text.specs.Accounts.{account_orders, ticks_of}

-- one more text
pub separated_more : {X : Type 0} (text : X → List ℕ) (xs : List X) (x : X) → separated text (xs ++ x ∷ []) ≡ separated text xs ++ (comma (length xs) then text x)
separated_more text [] x = append-nil (text x)
separated_more text (first ∷ xs) x = sym (flat_map_more (λ y. codes "," then text y) (text first) xs x)

-- a turn of the loop: one more order of the account
module _ (account : ℕ) (all left rest : List Order) (o : Order) (done : List Order) (split : account_orders account all ≡ done ++ account_orders account left) (is : left ≡ o ∷ rest) (own : o.account ≡ account) where
  pub one_more_own : account_orders account all ≡ (done ++ o ∷ []) ++ account_orders account rest
  one_more_own = split ∙ ap (λ xs. done ++ account_orders account xs) is ∙ rw (eq-eqb o.account account own) (sym (append_assoc done (o ∷ []) (account_orders account rest)))

  pub few_own : length all ≤ most_orders → length done + 1 ≤ 2 ^ 14
  few_own few =
      let own : Order → Bool = λ x. eqb x.account account in
      omega (arith, ap length one_more_own, length-append (done ++ o ∷ []) (account_orders account rest), length-append done (o ∷ []), length-filter_both own (λ x. not (own x)) (λ x. refl) all, few, orders_fit)

-- a price of whole ticks, in ticks
pub ticks_are : (grains ticks : ℤ) → price_of_ticks ticks ≡ grains → ticks ≡ ticks_of grains
ticks_are (pos grains) ticks is = omega (arith, ints, is)
ticks_are (negsuc grains) ticks is = omega (arith, ints, is)
