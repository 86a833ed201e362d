use Rattle.std.proofs.Common.{◌≡◌, ℕ, ◌*◌, ◌≤◌, ℤ, pos, ◌+ℤ◌, ◌-ℤ◌, ◌*ℤ◌, ◌≤ℤ◌, List, [], ◌∷◌, length, ap, refl, sym, ◌∙◌, arith}
use Rattle.std.specs.Prelude.{All, slice_index_or}
use Rattle.std.specs.List.{range_with_len}
use Rattle.std.proofs.Math.IntN.{*ℤ-zero, pos-*ℤ-pos}
use Rattle.std.proofs.lemmas.Int.{ints}
use Rattle.weight_rows.specs.declared.entries.Entry.{Entry}
use Rattle.list_sums.specs.Sums.{int_sum_by}
use Rattle.weight_rows.specs.Rows.{IsWeightVector, IsPricedBy, weight_in, price_of, portfolio_price}
use Rattle.list_sums.proofs.Products.{*ℤ-add}
use Rattle.list_sums.proofs.SumLemmas.{int_sum_by-same}
use Rattle.demand_curve.specs.Demand.{Terms, IsWithinLimits, IsRounding, loss}
use Rattle.demand_curve.specs.Welfare.{scaled_welfare}
use Rattle.demand_curve.proofs.LossLaws.{loss_covers_best_rate_in_parts}
use Rattle.list_sums.proofs.SumLemmas.{int_sum_by-le, int_sum_by-scale}
use Rattle.list_sums.proofs.Products.{*ℤ-assoc}
use Rattle.flow_orders.proofs.Duality.{costs_by_asset}

pub record Part : Type 0 where
  pub terms : Terms
  pub row : List Entry
  pub rate : ℕ
  pub other : ℕ
  pub share : ℕ

module _ {X : Type 0} (f g : X → ℤ) where
  sum_less : (c : ℤ) (xs : List X) → int_sum_by (λ x. f x -ℤ c *ℤ g x) xs ≡ int_sum_by f xs -ℤ c *ℤ int_sum_by g xs
  sum_less c [] = omega (arith, ints, *ℤ-zero c)
  sum_less c (x ∷ xs) = omega (arith, ints, sum_less c xs, *ℤ-add c (g x) (int_sum_by g xs))

module _ {X : Type 0} (f g l : X → ℤ) where
  sum_gains : (k c : ℤ) (xs : List X) → int_sum_by (λ x. k *ℤ (f x -ℤ c *ℤ g x +ℤ c *ℤ l x)) xs ≡ k *ℤ (int_sum_by f xs -ℤ c *ℤ int_sum_by g xs +ℤ c *ℤ int_sum_by l xs)
  sum_gains k c xs = sym (int_sum_by-scale (λ x. f x -ℤ c *ℤ g x +ℤ c *ℤ l x) k xs) ∙ ap (λ y. k *ℤ y) (inner xs)
    where
      inner : (xs : List X) → int_sum_by (λ x. f x -ℤ c *ℤ g x +ℤ c *ℤ l x) xs ≡ int_sum_by f xs -ℤ c *ℤ int_sum_by g xs +ℤ c *ℤ int_sum_by l xs
      inner [] = omega (arith, ints, *ℤ-zero c)
      inner (x ∷ xs) = omega (arith, ints, inner xs, *ℤ-add c (g x) (int_sum_by g xs), *ℤ-add c (l x) (int_sum_by l xs))

back : (l r : ℤ) → l -ℤ r +ℤ r ≡ l
back l r = omega (arith, ints)

cost_form : (M n K : ℕ) (c : ℤ) → pos (M * n * K) *ℤ c ≡ pos (M * K) *ℤ (pos n *ℤ c)
cost_form M n K c =
    let same : M * n * K ≡ M * K * n = omega arith in
    ap (λ y. pos y *ℤ c) same ∙ ap (λ y. y *ℤ c) (sym (pos-*ℤ-pos (M * K) n)) ∙ *ℤ-assoc (pos (M * K)) (pos n) c

cost_one : (M n : ℕ) (c : ℤ) → pos (M * n) *ℤ c ≡ pos M *ℤ (pos n *ℤ c)
cost_one M n c = ap (λ y. y *ℤ c) (sym (pos-*ℤ-pos M n)) ∙ *ℤ-assoc (pos M) (pos n) c

pub record IsPart (prices : List ℤ) (K M : ℕ) (p : Part) : Type 0 where
  pub limits : IsWithinLimits p.terms
  pub lawful : IsWeightVector p.row
  pub priced : IsPricedBy p.row prices
  pub rounding : IsRounding p.terms p.rate (portfolio_price p.row prices)
  pub within : p.other ≤ K * p.terms.room
  pub parts : p.share * (2 * p.terms.rate) ≡ M

module _ (prices : List ℤ) (K M : ℕ) where
  unfoldable pub price_at : Part → ℤ
  price_at p = portfolio_price p.row prices

  unfoldable pub better : Part → ℤ
  better p = pos p.share *ℤ scaled_welfare p.terms p.other K

  unfoldable pub published : Part → ℤ
  published p = pos p.share *ℤ scaled_welfare p.terms p.rate 1

  unfoldable pub lost : Part → ℤ
  lost p = pos (loss p.terms p.rate (portfolio_price p.row prices))

  one_order : (p : Part) → IsPart prices K M p → (better p -ℤ pos (M * K) *ℤ (pos p.other *ℤ price_at p)) ≤ℤ (pos (K * K) *ℤ (published p -ℤ pos M *ℤ (pos p.rate *ℤ price_at p) +ℤ pos M *ℤ lost p))
  unfolding better published lost price_at
  one_order p h =
      rw (← cost_form M p.other K (portfolio_price p.row prices), ← cost_one M p.rate (portfolio_price p.row prices), pos-*ℤ-pos M (loss p.terms p.rate (portfolio_price p.row prices)))
      (loss_covers_best_rate_in_parts p.terms h.limits (portfolio_price p.row prices) p.rate h.rounding p.other K h.within p.share M h.parts)

  whole_book : (ps : List Part) → All (IsPart prices K M) ps
      → (int_sum_by better ps -ℤ pos (M * K) *ℤ int_sum_by (λ p. pos p.other *ℤ price_at p) ps)
      ≤ℤ (pos (K * K) *ℤ (int_sum_by published ps -ℤ pos M *ℤ int_sum_by (λ p. pos p.rate *ℤ price_at p) ps +ℤ pos M *ℤ int_sum_by lost ps))
  whole_book ps h =
      let each = int_sum_by-le (λ p. better p -ℤ pos (M * K) *ℤ (pos p.other *ℤ price_at p)) (λ p. pos (K * K) *ℤ (published p -ℤ pos M *ℤ (pos p.rate *ℤ price_at p) +ℤ pos M *ℤ lost p)) ps
      (λ k d inside. one_order (slice_index_or ps k d) (h k d inside)) in
      rw (sum_less better (λ p. pos p.other *ℤ price_at p) (pos (M * K)) ps, sum_gains published (λ p. pos p.rate *ℤ price_at p) lost (pos (K * K)) (pos M) ps) at each

  -- what is traded of an asset
  unfoldable pub net : (Part → ℕ) → List Part → ℕ → ℤ
  net rate ps a = int_sum_by (λ p. weight_in p.row a *ℤ pos (rate p)) ps

  -- what the imbalances cost
  unfoldable pub cost_of_residuals : List Part → ℤ
  cost_of_residuals ps = int_sum_by (λ a. price_of prices a *ℤ net (λ p. p.rate) ps a) (range_with_len 0 (length prices))

  pub optimal_within_gap : (ps : List Part) → All (IsPart prices K M) ps
      → ((a : ℕ) → net (λ p. p.other) ps a ≡ pos 0)
      → int_sum_by better ps ≤ℤ (pos (K * K) *ℤ (int_sum_by published ps +ℤ pos M *ℤ (int_sum_by lost ps -ℤ cost_of_residuals ps)))
  unfolding net cost_of_residuals price_at
  optimal_within_gap ps h balanced =
      let assets = range_with_len 0 (length prices) in
      let lawful : All (λ p. IsWeightVector p.row) ps = λ k d inside. (h k d inside).lawful in
      let priced : All (λ p. IsPricedBy p.row prices) ps = λ k d inside. (h k d inside).priced in
      let others = costs_by_asset (λ (p : Part). p.row) (λ p. pos p.other) prices ps lawful priced in
      let rates = costs_by_asset (λ (p : Part). p.row) (λ p. pos p.rate) prices ps lawful priced in
      let nothing : int_sum_by (λ a. price_of prices a *ℤ int_sum_by (λ (p : Part). weight_in p.row a *ℤ pos p.other) ps) assets ≡ pos 0 =
      int_sum_by-same (λ a. price_of prices a *ℤ int_sum_by (λ (p : Part). weight_in p.row a *ℤ pos p.other) ps) (λ a. pos 0) assets (λ a. ap (λ y. price_of prices a *ℤ y) (balanced a) ∙ *ℤ-zero (price_of prices a)) ∙ none assets in
      let book = rw (others ∙ nothing, rates, *ℤ-zero (pos (M * K))) at (whole_book ps h) in
      finish (int_sum_by better ps) (int_sum_by published ps) (pos M) (int_sum_by (λ a. price_of prices a *ℤ int_sum_by (λ (p : Part). weight_in p.row a *ℤ pos p.rate) ps) assets) (int_sum_by lost ps) (pos (K * K)) book
    where
      none : (xs : List ℕ) → int_sum_by (λ (a : ℕ). pos 0) xs ≡ pos 0
      none [] = refl
      none (x ∷ xs) = omega (arith, ints, none xs)

      finish : (b w m r l k : ℤ) → (b -ℤ pos 0) ≤ℤ (k *ℤ (w -ℤ m *ℤ r +ℤ m *ℤ l)) → b ≤ℤ (k *ℤ (w +ℤ m *ℤ (l -ℤ r)))
      finish b w m r l k h =
          let inner : w -ℤ m *ℤ r +ℤ m *ℤ l ≡ w +ℤ m *ℤ (l -ℤ r) = omega (arith, ints, *ℤ-add m (l -ℤ r) r, ap (λ y. m *ℤ y) (back l r)) in
          let same = rw inner at h in
          omega (arith, ints, same)
