-- A batch has exactly one canonical outcome, and joint prices skip no more batches.
use Rattle.std.proofs.Common.{◌≡◌, ℕ, Bool, true, false, ℤ, List, length, refl, sym, ap, subst, ⊎_elim, ◌∙◌}
use Rattle.flow_orders.specs.Orders.{Order}
use Rattle.flow_orders.specs.declared.search.Search.{Search}
use Rattle.canonical_rule.specs.Turns.{visits}
use Rattle.canonical_rule.specs.Attempts.{walks_alone, with_joint_prices, canonical_walk, attempts, NoneSucceeds}
use Rattle.flow_orders.specs.Outcomes.{Clearing, Outcome, Cleared, Skipped, skipping_at, are_single, clearing_at}
use Rattle.canonical_rule.specs.Canonical.{IsCanonicalOutcome, ArePricesOf, moved_once, rates_by_choice}
use Rattle.canonical_rule.specs.Laws.{JointPricesSkipNoMore}
use Rattle.flow_orders.specs.Trades.{trades}
use Rattle.canonical_rule.proofs.Attempting.{one_end, not_none, ends_or_none, last_fails}

one_prices : (search : Search) (single : Bool) (orders : List Order) (start : List ℤ) (budget : ℕ) (p q : List ℤ) → ArePricesOf search single orders start budget p → ArePricesOf search single orders start budget q → p ≡ q
one_prices search true orders start budget p q first other = first ∙ sym other
one_prices search false orders start budget p q first other = one_end search.parts orders (attempts search.joint orders start budget) p q first other

-- where the rule reaches prices, it isn't so that no attempt succeeds
no_skip : (search : Search) (orders : List Order) (start : List ℤ) (budget : ℕ) (p : List ℤ) → ArePricesOf search (are_single orders) orders start budget p → are_single orders ≡ false
    → NoneSucceeds search.parts orders (attempts search.joint orders start budget) → ⊥
no_skip search orders start budget p reached wide none =
    not_none search.parts orders (attempts search.joint orders start budget) p (subst (λ single. ArePricesOf search single orders start budget p) wide reached) none

-- a batch has at most one canonical outcome
pub one_own : (search : Search) (orders : List Order) (start : List ℤ) (budget : ℕ) (o p : Outcome) → IsCanonicalOutcome search orders start budget o → IsCanonicalOutcome search orders start budget p → o ≡ p
one_own search orders start budget (Cleared c) (Cleared d) first other =
    let same = one_prices search (are_single orders) orders start budget c.prices d.prices first.0 other.0 in
    let at : List ℤ → Clearing = λ prices. clearing_at (length start) prices (trades orders (rates_by_choice (length start) orders prices)) in
    ap Cleared (first.1 ∙ ap at same ∙ sym other.1)
one_own search orders start budget (Cleared c) (Skipped s) first other = absurd (no_skip search orders start budget c.prices first.0 other.0 other.1)
one_own search orders start budget (Skipped r) (Cleared d) first other = absurd (no_skip search orders start budget d.prices other.0 first.0 first.1)
one_own search orders start budget (Skipped r) (Skipped s) first other =
    ap Skipped (first.2 ∙ sym other.2)

-- a clearing at prices that the canonical rule reaches is a canonical outcome, with the chosen rates
own_cleared : (search : Search) (orders : List Order) (start : List ℤ) (budget : ℕ) (end : List ℤ) → ArePricesOf search (are_single orders) orders start budget end → (o : Outcome) × IsCanonicalOutcome search orders start budget o
own_cleared search orders start budget end reached = (Cleared (clearing_at (length start) end (trades orders (rates_by_choice (length start) orders end))), (reached, refl))

pub own_is_there : (search : Search) (orders : List Order) (start : List ℤ) (budget : ℕ) → (o : Outcome) × IsCanonicalOutcome search orders start budget o
own_is_there search orders start budget = by_single (are_single orders) refl
  where
    by_single : (single : Bool) → are_single orders ≡ single → (o : Outcome) × IsCanonicalOutcome search orders start budget o
    by_single true is = own_cleared search orders start budget (moved_once search.parts orders (visits (length start) 0) start) (rw is refl)
    by_single false is =
        ⊎_elim
        (λ reached. own_cleared search orders start budget reached.0 (rw is reached.1))
        (λ none. (Skipped (skipping_at search.parts orders start (canonical_walk search.parts orders start budget)), (is, none, refl)))
        (ends_or_none search.parts orders (attempts search.joint orders start budget))

module _ (parts : ℕ) (orders : List Order) (start : List ℤ) (budget : ℕ) where
  -- prices that are reached without joint prices, and a skip with them, exclude each other
  reached_or_skipped : (c : Clearing) → IsCanonicalOutcome (walks_alone parts) orders start budget (Cleared c) → are_single orders ≡ false
      → NoneSucceeds parts orders (attempts true orders start budget) → ⊥
  reached_or_skipped c own wide none = no_skip (walks_alone parts) orders start budget c.prices own.0 wide (last_fails parts orders true start budget none, tt)

  cleared_too : (c : Clearing) → IsCanonicalOutcome (walks_alone parts) orders start budget (Cleared c)
      → (o : Outcome) × IsCanonicalOutcome (with_joint_prices parts) orders start budget o → (d : Clearing) × IsCanonicalOutcome (with_joint_prices parts) orders start budget (Cleared d)
  cleared_too c own (Cleared d, is) = (d, is)
  cleared_too c own (Skipped s, is) = absurd (reached_or_skipped c own is.0 is.1)

-- joint prices skip no batch that clears without them
pub joint_prices_skip_no_more : JointPricesSkipNoMore
joint_prices_skip_no_more = record {
  clears = λ parts orders start budget c own. cleared_too parts orders start budget c own (own_is_there (with_joint_prices parts) orders start budget);
  skips = λ parts orders start budget s own. (own.0, (last_fails parts orders true start budget own.1, tt), own.2);
}
