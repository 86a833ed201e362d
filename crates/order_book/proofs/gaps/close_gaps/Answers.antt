use Rattle.std.proofs.Common.{◌≡◌, ℕ, List, [], ◌∷◌, length, sym, refl, rules, arith}
use Rattle.order_book.proofs.LiveOrders.{all_live}
use Rattle.order_book.proofs.gaps.close_gaps.Goals as goal

none : (l : List ℕ) → length l ≡ 0 → l ≡ []
none [] is = refl
none (x ∷ l) is = absurd (omega (arith, is))

pub returns-else-not-is_empty-clause-orders : goal.returns-else-not-is_empty-clause-orders
returns-else-not-is_empty-clause-orders c =
    sym (all_live c.args.gaps.now c.args.slots.now.items (none c.args.gaps.now.keys (search rules)))
