-- Equal lines that are carried forward show equal balances.
use Rattle.std.proofs.Common.{◌≡◌, ◌≢◌, ◌⊎◌, inl, inr, ℕ, zero, suc, ◌+◌, ◌^◌, ◌<◌, ◌≤◌, true, false, ℤ, pos, negsuc, List, [], ◌∷◌, ◌++◌, length, codes, decimal, refl, sym, ap, subst, ◌∙◌, arith}
use Rattle.std.specs.Prelude.{◌==◌, slice_index_or}
use Rattle.std.specs.Fmt.{signed_decimal}
use Rattle.std.specs.List.{flat_map, range_with_len, sum_by}
use Rattle.std.specs.Char.{digit_value}
use Rattle.std.specs.Str.Parse.{AllDigits, digits_value}
use Rattle.std.proofs.lemmas.Int.{ints}
use Rattle.std.proofs.lemmas.Bool.{cases_Bool}
use Rattle.std.proofs.lemmas.Bool.Decides.{eqb_tells}
use Rattle.market_rules.proofs.Lawful.{money_of_each, units_of_each}
use Rattle.std.proofs.lemmas.Fmt.{decimal_is_IsNumeral_wide}
use Rattle.std.proofs.lemmas.List.{append_assoc}
use Rattle.flow_accounts.specs.Balances.{IsAccount, money_of, units_of}
use Rattle.flow_accounts.specs.Lawful.{IsMoneyBalance, IsUnitBalance}
use Rattle.flow_orders.specs.Orders.{Order, money_need, unit_need}
use Rattle.market_rules.specs.Market.{Market, IsConsistent}
use Rattle.pair_text.specs.Texts.{asset_name}
use Rattle.statement_rules.specs.Views.{is_there}
use Rattle.statement_rules.specs.Holdings.{own_orders, held_in, IsHeld}
use Rattle.statement_rules.specs.Statements.{end_lines, carried_lines}
use Rattle.statement_rules.specs.Laws.{EqualCarriedLinesEqualStatements}
use Rattle.statement_rules.proofs.OwnParts.{no_money, no_units}
use Rattle.statement_rules.proofs.Told.{is_account, isn't_account}
use Rattle.statement_rules.proofs.FromMarkets.{carried_there, carried_not, equal_starts_equal_statements}

heads : (a b : ℕ) (x y : List ℕ) → a ∷ x ≡ b ∷ y → (a ≡ b) × (x ≡ y)
heads a b x y e = (cc, cc)

-- what follows equal prefixes of equal texts is equal
strip : (prefix x y : List ℕ) → prefix ++ x ≡ prefix ++ y → x ≡ y
strip [] x y e = e
strip (c ∷ prefix) x y e = strip prefix x y (heads c c _ _ e).1

-- a text without a space
abbrev Clear : List ℕ → Type 0
Clear xs = (k : ℕ) (d : ℕ) → k < length xs → slice_index_or xs k d ≢ 32

-- equal texts are equal before their first space, and after it
cut : (p q x y : List ℕ) → Clear p → Clear q → p ++ 32 ∷ x ≡ q ++ 32 ∷ y → (p ≡ q) × (x ≡ y)
cut [] [] x y a b e = (refl, (heads 32 32 x y e).1)
cut [] (c ∷ q) x y a b e = absurd (b 0 c (omega arith) (sym (heads 32 c _ _ e).0))
cut (c ∷ p) [] x y a b e = absurd (a 0 c (omega arith) (heads c 32 _ _ e).0)
cut (c ∷ p) (d ∷ q) x y a b e =
    let first = heads c d _ _ e in
    let rest = cut p q x y (λ k z inside. a (suc k) z (omega (arith, inside))) (λ k z inside. b (suc k) z (omega (arith, inside))) first.1 in
    (ap (λ z. z ∷ p) first.0 ∙ ap (λ l. d ∷ l) rest.0, rest.1)

-- ---- numbers

digits_clear : (ds : List ℕ) → AllDigits 10 ds → Clear ds
digits_clear [] all k d inside = absurd (omega (arith, inside))
digits_clear (c ∷ cs) all zero d inside = λ e. let far : digit_value 32 < 10 = subst (λ z. digit_value z < 10) e all.0 in absurd (omega (arith, far))
digits_clear (c ∷ cs) all (suc k) d inside = digits_clear cs all.1 k d (omega (arith, inside))

abbrev IsSmall : ℤ → Type 0
IsSmall (pos n) = n < 10 ^ 64
IsSmall (negsuc n) = suc n < 10 ^ 64

decimal_one : (n m : ℕ) → n < 10 ^ 64 → m < 10 ^ 64 → decimal n ≡ decimal m → n ≡ m
decimal_one n m a b e = sym (decimal_is_IsNumeral_wide n a).1 ∙ ap (digits_value 10) e ∙ (decimal_is_IsNumeral_wide m b).1

no_sign : (n : ℕ) (xs : List ℕ) → n < 10 ^ 64 → decimal n ≡ 45 ∷ xs → ⊥
no_sign n xs small e = let all : AllDigits 10 (45 ∷ xs) = subst (AllDigits 10) e (decimal_is_IsNumeral_wide n small).0.1 in absurd (omega (arith, all.0))

signed_one : (a b : ℤ) → IsSmall a → IsSmall b → signed_decimal a ≡ signed_decimal b → a ≡ b
signed_one (pos n) (pos m) a b e = ap pos (decimal_one n m a b e)
signed_one (pos n) (negsuc m) a b e = absurd (no_sign n (decimal (suc m)) a e)
signed_one (negsuc n) (pos m) a b e = absurd (no_sign m (decimal (suc n)) b (sym e))
signed_one (negsuc n) (negsuc m) a b e =
    let same : suc n ≡ suc m = decimal_one (suc n) (suc m) a b (heads 45 45 (decimal (suc n)) (decimal (suc m)) e).1 in
    ap negsuc (omega (arith, same))

signed_clear : (a : ℤ) → IsSmall a → Clear (signed_decimal a)
signed_clear (pos n) small k d inside = digits_clear (decimal n) (decimal_is_IsNumeral_wide n small).0.1 k d inside
signed_clear (negsuc n) small zero d inside = λ e. absurd (omega (arith, e))
signed_clear (negsuc n) small (suc k) d inside = digits_clear (decimal (suc n)) (decimal_is_IsNumeral_wide (suc n) small).0.1 k d (omega (arith, inside))

money_small : (z : ℤ) → IsMoneyBalance z → IsSmall z
money_small (pos n) is = omega (arith, ints, is.1)
money_small (negsuc n) is = omega (arith, ints, is.0)

units_small : (z : ℤ) → IsUnitBalance z → IsSmall z
units_small (pos n) is = omega (arith, ints, is.1)
units_small (negsuc n) is = omega (arith, ints, is.0)

-- ---- lines

-- equal lines, each of a number, the same reserved amount and more text, have equal numbers and equal texts after them
numbers : (a b : ℤ) (reserved : ℕ) (x y : List ℕ) → IsSmall a → IsSmall b
    → signed_decimal a ++ (codes " reserved " ++ (decimal reserved ++ (codes "\n" ++ x))) ≡ signed_decimal b ++ (codes " reserved " ++ (decimal reserved ++ (codes "\n" ++ y))) → (a ≡ b) × (x ≡ y)
numbers a b reserved x y small also e =
    let parts = cut (signed_decimal a) (signed_decimal b) (codes "reserved " ++ (decimal reserved ++ (codes "\n" ++ x))) (codes "reserved " ++ (decimal reserved ++ (codes "\n" ++ y))) (signed_clear a small) (signed_clear b also) e in
    let following = strip (codes "reserved ") (decimal reserved ++ (codes "\n" ++ x)) (decimal reserved ++ (codes "\n" ++ y)) parts.1 in
    (signed_one a b small also parts.0, strip (codes "\n") x y (strip (decimal reserved) (codes "\n" ++ x) (codes "\n" ++ y) following))

abbrev line : List ℕ → ℤ → ℕ → List ℕ
line name units reserved = name ++ (codes " units " ++ (signed_decimal units ++ (codes " reserved " ++ (decimal reserved ++ codes "\n"))))

line_on : (name : List ℕ) (units : ℤ) (reserved : ℕ) (x : List ℕ) → line name units reserved ++ x ≡ name ++ (codes " units " ++ (signed_decimal units ++ (codes " reserved " ++ (decimal reserved ++ (codes "\n" ++ x)))))
line_on name units reserved x =
    append_assoc name (codes " units " ++ (signed_decimal units ++ (codes " reserved " ++ (decimal reserved ++ codes "\n")))) x
    ∙ ap (λ l. name ++ (codes " units " ++ l)) (append_assoc (signed_decimal units) (codes " reserved " ++ (decimal reserved ++ codes "\n")) x
    ∙ ap (λ l. signed_decimal units ++ (codes " reserved " ++ l)) (append_assoc (decimal reserved) (codes "\n") x))

lines : (name : ℕ → List ℕ) (f g : ℕ → ℤ) (reserved : ℕ → ℕ) (start n : ℕ) → ((k : ℕ) → k < start + n → IsSmall (f k) × IsSmall (g k))
    → flat_map (λ k. line (name k) (f k) (reserved k)) (range_with_len start n) ≡ flat_map (λ k. line (name k) (g k) (reserved k)) (range_with_len start n) → (k : ℕ) → start ≤ k → k < start + n → f k ≡ g k
lines name f g reserved start zero small e k low high = absurd (omega (arith, low, high))
lines name f g reserved start (suc n) small e k low high =
    let x = flat_map (λ i. line (name i) (f i) (reserved i)) (range_with_len (start + 1) n) in
    let y = flat_map (λ i. line (name i) (g i) (reserved i)) (range_with_len (start + 1) n) in
    let here = small start (omega arith) in
    let both = sym (line_on (name start) (f start) (reserved start) x) ∙ e ∙ line_on (name start) (g start) (reserved start) y in
    let first = numbers (f start) (g start) (reserved start) x y here.0 here.1 (strip (codes " units ") _ _ (strip (name start) _ _ both)) in
    by k low high first.0 (λ later. lines name f g reserved (start + 1) n (λ j inside. small j (omega (arith, inside))) first.1 k later (omega (arith, high))) (eqb_tells k start)
  where
    by : (i : ℕ) → start ≤ i → i < start + suc n → f start ≡ g start → (start + 1 ≤ i → f i ≡ g i) → (((i == start) ≡ true) × (i ≡ start)) ⊎ (((i == start) ≡ false) × (i ≢ start)) → f i ≡ g i
    by i low high here following (inl same) = subst (λ j. f j ≡ g j) (sym same.1) here
    by i low high here following (inr other) = following (omega (arith, low, other.1))

-- ---- the lines that are carried forward

module _ (account : ℕ) (one other : Market) (consistent : IsConsistent one) (consistent_other : IsConsistent other) (tickers : one.tickers ≡ other.tickers) (orders : own_orders account one.orders ≡ own_orders account other.orders) where
  -- the last lines in a market, with the assets and the live orders given
  abbrev told_by : Market → List (List ℕ) → List Order → List ℕ
  told_by m names live =
      codes "money " ++ (signed_decimal (money_of m.balances account) ++ (codes " reserved " ++ (decimal (sum_by money_need live) ++ (codes "\n"
      ++ flat_map (λ k. line (asset_name names k) (units_of m.balances account k) (sum_by (unit_need k) live)) (range_with_len 0 (length names))))))

  there_in_both : IsAccount one.balances account → IsAccount other.balances account → is_there one account ≡ is_there other account → end_lines (held_in account one) ≡ end_lines (held_in account other) → IsHeld account other (held_in account one)
  there_in_both here there opened e =
      let live = own_orders account one.orders in
      let names = one.tickers in
      let same : told_by one names live ≡ told_by other names live =
      e ∙ ap (λ (ts : List (List ℕ)). told_by other ts (own_orders account other.orders)) (sym tickers) ∙ ap (told_by other names) (sym orders) in
      let split = numbers (money_of one.balances account) (money_of other.balances account) (sum_by money_need live) _ _
      (money_small (money_of one.balances account) (money_of_each one consistent account here)) (money_small (money_of other.balances account) (money_of_each other consistent_other account there)) (strip (codes "money ") _ _ same) in
      record {
        tickers = tickers;
        opened = opened;
        money = λ some. split.0;
        units = λ some asset is.
            lines (asset_name names) (units_of one.balances account) (units_of other.balances account) (λ k. sum_by (unit_need k) live) 0 (length names)
            (λ k inside. (
              units_small (units_of one.balances account k) (units_of_each one consistent k (omega (arith, inside, consistent.one_each.tickers)) account here),
              units_small (units_of other.balances account k) (units_of_each other consistent_other k (omega (arith, inside, ap length tickers, consistent_other.one_each.tickers)) account there),
            )) split.1 asset (omega arith) (omega (arith, is, consistent_other.one_each.tickers, ap length tickers));
        orders = orders;
      }

  -- an account that is in neither market has the same in both: nothing
  absent_in_both : is_there one account ≡ false → is_there other account ≡ false → IsHeld account other (held_in account one)
  absent_in_both not_one not_other = record {
    tickers = tickers;
    opened = not_one ∙ sym not_other;
    money = λ some. no_money one.balances account some (isn't_account one account not_one) ∙ sym (no_money other.balances account some (isn't_account other account not_other));
    units = λ some asset is. no_units one.balances account asset some (isn't_account one account not_one) ∙ sym (no_units other.balances account asset some (isn't_account other account not_other));
    orders = orders;
  }

  some_lines : (m : Market) → end_lines (held_in account m) ≡ [] → ⊥
  some_lines m e = cc

  tells : carried_lines account one ≡ carried_lines account other → IsHeld account other (held_in account one)
  tells same = by (cases_Bool (is_there one account)) (cases_Bool (is_there other account))
    where
      by : (is_there one account ≡ true) ⊎ (is_there one account ≡ false) → (is_there other account ≡ true) ⊎ (is_there other account ≡ false) → IsHeld account other (held_in account one)
      by (inl a) (inl b) =
          let here = is_account one account a in
          let there = is_account other account b in
          there_in_both here there (a ∙ sym b) (sym (carried_there account one here) ∙ same ∙ carried_there account other there)
      by (inl a) (inr b) = absurd (some_lines one (sym (carried_there account one (is_account one account a)) ∙ same ∙ carried_not account other b))
      by (inr a) (inl b) = absurd (some_lines other (sym (carried_there account other (is_account other account b)) ∙ sym same ∙ carried_not account one a))
      by (inr a) (inr b) = absent_in_both a b

pub equal_carried_lines_equal_statements : EqualCarriedLinesEqualStatements
equal_carried_lines_equal_statements = record {
  holdings = tells;
  statements = λ account one other pairs more v w m n consistent consistent_other tickers orders carried first second same there.
      equal_starts_equal_statements.whole account one other pairs more v w m n consistent_other (tells account one other consistent consistent_other tickers orders carried) first second same there;
}
