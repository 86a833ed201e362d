-- What the first accounts hold together.
use Rattle.std.proofs.Common.{◌≡◌, FitsSigned, ℕ, zero, suc, ◌+◌, ◌-◌, ◌*◌, ◌^◌, ◌<◌, ◌≤◌, ℤ, pos, ◌+ℤ◌, ◌≤ℤ◌, ◌<ℤ◌, refl, ap, ◌∙◌, subst, sym, arith}
use Rattle.std.specs.Prelude.{neg_ℤ, unsigned_abs}
use Rattle.std.specs.List.{range_with_len}
use Rattle.std.specs.Int.{w128}
use Rattle.std.proofs.lemmas.Int.{ints, fits_signed_from_abs}
use Rattle.list_sums.specs.Sums.{int_sum_by}
use Rattle.flow_accounts.specs.Balances.{Balances, IsAccount, IsAsset, account_count, money_of, units_of}
use Rattle.flow_accounts.specs.Lawful.{AreLawful}
use Rattle.flow_accounts.specs.Sums.{money_of_all, units_of_all}
use Rattle.flow_accounts.proofs.Balance.{money_balance, unit_balance}
use Rattle.fill_caps.proofs.Joined.{range_least}
use Rattle.fill_caps.proofs.Totals.{money_by_account, units_by_account}
use Rattle.market_parts.specs.Tests.{IsMoneyHeld}

-- a sum over numbers that follow one another, in two parts
pub range_parts : (g : ℕ → ℤ) (a n m : ℕ) → int_sum_by g (range_with_len a (n + m)) ≡ int_sum_by g (range_with_len a n) +ℤ int_sum_by g (range_with_len (a + n) m)
range_parts g a zero m =
    let prefix : 0 + m ≡ m = omega arith in
    let same : a + 0 ≡ a = omega arith in
    rw (prefix, same) (omega (arith, ints))
range_parts g a (suc n) m =
    let prefix : suc n + m ≡ suc (n + m) = omega arith in
    let same : a + suc n ≡ a + 1 + n = omega arith in
    rw (prefix, same) (omega (arith, ints, range_parts g (a + 1) n m))

-- one number more
pub range_more : (g : ℕ → ℤ) (n : ℕ) → int_sum_by g (range_with_len 1 (n + 1)) ≡ int_sum_by g (range_with_len 1 n) +ℤ g (n + 1)
range_more g n =
    let same : 1 + n ≡ n + 1 = omega arith in
    let last = ap g same in
    omega (arith, ints, range_parts g 1 n 1, last)

-- the money of the first accounts, none of which owes more than the highest credit
pub record IsMoneyOfFirst (b : Balances) (count : ℕ) (sum : ℤ) : Type 0 where
  pub is : sum ≡ int_sum_by (λ account. money_of b account) (range_with_len 1 count)
  pub least : neg_ℤ (pos (2 ^ 72 * count)) ≤ℤ sum
  pub most : sum ≤ℤ pos (2 ^ 124)

-- the units of an asset that the first accounts hold
pub record AreUnitsOfFirst (b : Balances) (asset count : ℕ) (sum : ℤ) : Type 0 where
  pub is : sum ≡ int_sum_by (λ account. units_of b account asset) (range_with_len 1 count)
  pub least : neg_ℤ (pos (2 ^ 40 * count)) ≤ℤ sum
  pub most : sum ≤ℤ pos (2 ^ 62 * count)

module _ (b : Balances) (lawful : AreLawful b) where
  next_account : (k : ℕ) → k < account_count b → IsAccount b (k + 1)
  next_account k inside = (omega arith, omega (arith, inside))

  pub money_bounds : (k : ℕ) → k < account_count b → (neg_ℤ (pos (2 ^ 72)) ≤ℤ money_of b (k + 1)) × (money_of b (k + 1) <ℤ pos (2 ^ 124))
  money_bounds k inside =
      let balance = money_balance b (k + 1) lawful (next_account k inside) in
      (omega (arith, ints, balance.0), balance.1)

  pub no_money : IsMoneyOfFirst b 0 (pos 0)
  no_money = record { is = refl; least = omega (arith, ints); most = omega (arith, ints) }

  -- one account more fits
  pub money_fits : (k : ℕ) (sum : ℤ) → k < account_count b → IsMoneyOfFirst b k sum → FitsSigned w128 (sum +ℤ money_of b (k + 1))
  money_fits k sum inside first =
      let each = money_bounds k inside in
      fits_signed_from_abs w128 (sum +ℤ money_of b (k + 1)) (omega (arith, ints, each.0, each.1, first.least, first.most, inside, lawful.few_accounts))

  pub money_more : (k : ℕ) (sum new : ℤ) → k < account_count b → IsMoneyOfFirst b k sum → new ≡ sum +ℤ money_of b (k + 1) → new ≤ℤ pos (2 ^ 124) → IsMoneyOfFirst b (k + 1) new
  money_more k sum new inside first next few = record {
    is = omega (arith, ints, next, first.is, range_more (λ account. money_of b account) k);
    least = omega (arith, ints, next, first.least, (money_bounds k inside).0);
    most = few;
  }

  -- if the first accounts hold too much, so do all
  pub money_too_much : (k : ℕ) (sum new : ℤ) → k < account_count b → IsMoneyOfFirst b k sum → new ≡ sum +ℤ money_of b (k + 1) → pos (2 ^ 124) <ℤ new → pos (2 ^ 123 + 2 ^ 122) <ℤ money_of_all b
  money_too_much k sum new inside first next much =
      let g : ℕ → ℤ = λ account. money_of b account in
      let left : ℕ = account_count b - (k + 1) in
      let whole : k + 1 + left ≡ account_count b = omega (arith, inside) in
      let parts = subst (λ n. int_sum_by g (range_with_len 1 n) ≡ int_sum_by g (range_with_len 1 (k + 1)) +ℤ int_sum_by g (range_with_len (1 + (k + 1)) left)) whole (range_parts g 1 (k + 1) left) in
      let least = range_least g (2 ^ 72) (1 + (k + 1)) left (λ account low high. omega (arith, ints, (money_balance b account lawful (omega (arith, low), omega (arith, high, whole))).0)) in
      omega (arith, ints, parts, least, range_more g k, first.is, next, much, money_by_account b, lawful.few_accounts, whole)

  pub all_money : (sum : ℤ) → IsMoneyOfFirst b (account_count b) sum → sum ≡ money_of_all b
  all_money sum all = all.is ∙ sym (money_by_account b)

  pub money_small : (sum : ℤ) → IsMoneyOfFirst b (account_count b) sum → unsigned_abs sum ≤ 2 ^ 125
  money_small sum all = omega (arith, ints, all.least, all.most, lawful.few_accounts)

  -- too much for any total
  pub never_held : (exchange : ℤ) → unsigned_abs exchange ≤ 2 ^ 123 → pos (2 ^ 123 + 2 ^ 122) <ℤ money_of_all b → IsMoneyHeld b exchange → ⊥
  never_held exchange small much held = omega (arith, ints, small, much, held, lawful.total_money.1)

  module _ (asset : ℕ) (there : IsAsset b asset) where
    pub no_units : AreUnitsOfFirst b asset 0 (pos 0)
    no_units = record { is = refl; least = omega (arith, ints); most = omega (arith, ints) }

    pub unit_bounds : (k : ℕ) → k < account_count b → (neg_ℤ (pos (2 ^ 40)) ≤ℤ units_of b (k + 1) asset) × (units_of b (k + 1) asset <ℤ pos (2 ^ 62))
    unit_bounds k inside =
        let balance = unit_balance b (k + 1) asset lawful (next_account k inside) there in
        (omega (arith, ints, balance.0), balance.1)

    pub units_fit : (k : ℕ) (sum : ℤ) → k < account_count b → AreUnitsOfFirst b asset k sum → FitsSigned w128 (sum +ℤ units_of b (k + 1) asset)
    units_fit k sum inside first =
        let each = unit_bounds k inside in
        fits_signed_from_abs w128 (sum +ℤ units_of b (k + 1) asset) (omega (arith, ints, each.0, each.1, first.least, first.most, inside, lawful.few_accounts))

    pub units_more : (k : ℕ) (sum new : ℤ) → k < account_count b → AreUnitsOfFirst b asset k sum → new ≡ sum +ℤ units_of b (k + 1) asset → AreUnitsOfFirst b asset (k + 1) new
    units_more k sum new inside first next =
        let balance = unit_balance b (k + 1) asset lawful (next_account k inside) there in
        record {
          is = omega (arith, ints, next, first.is, range_more (λ account. units_of b account asset) k);
          least = omega (arith, ints, next, first.least, balance.0);
          most = omega (arith, ints, next, first.most, balance.1);
        }

    pub all_units : (sum : ℤ) → AreUnitsOfFirst b asset (account_count b) sum → sum ≡ units_of_all b asset
    all_units sum all = all.is ∙ sym (units_by_account b asset)

    pub units_small : (sum : ℤ) → AreUnitsOfFirst b asset (account_count b) sum → unsigned_abs sum ≤ 2 ^ 80
    units_small sum all = omega (arith, ints, all.least, all.most, lawful.few_accounts)
