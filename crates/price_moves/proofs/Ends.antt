-- The amount after which a move ends, as the workspace finds it, is that of the move of the definitions.
use Rattle.std.proofs.Common.{◌≡◌, ℕ, ◌*◌, ◌≤◌, inl, inr, ⊎_elim, Bool, true, false, ◌||◌, ℤ, pos, List, set, refl, ap, ◌∙◌, arith}
use Rattle.std.specs.Prelude.{All}
use Rattle.std.proofs.lemmas.Int.{ints}
use Rattle.weight_rows.specs.Rows.{price_of}
use Rattle.flow_orders.specs.Orders.{Order, IsOrder}
use Rattle.flow_orders.specs.Excess.{steepness, is_unsettled}
use Rattle.flow_orders.specs.WholeUnits.{is_above, is_below}
use Rattle.flow_orders.specs.Moves.{moved}
use Rattle.flow_orders.proofs.Book.{IsConsistent}
use Rattle.flow_orders.proofs.MoveFacts.{move_unique}
use Rattle.flow_orders.proofs.Moving.{above_is, below_is, moved_is}
use Rattle.flow_orders.proofs.DualWalks.{IsMove}
use Rattle.flow_orders.proofs.WholeUnits.{unsettled_one}
use Rattle.excess_bounds.specs.declared.directions.Direction.{Direction}
use Rattle.excess_bounds.specs.declared.directions.Direction.TheVariants.{Rise, Fall}
use Rattle.excess_bounds.specs.Directions.{IsTowards, asked_towards, price_towards}
use Rattle.excess_bounds.specs.Ends.{IsEnd}

pub all_consistent : (orders : List Order) → All IsOrder orders → All IsConsistent orders
all_consistent orders each k d inside = let o = each k d inside in record { limits = o.terms; lawful = o.row }

second_of : (a b : Bool) → b ≡ true → (a || b) ≡ true
second_of true b e = refl
second_of false b e = e

-- an asset whose price moves is unsettled
unsettled_towards : (orders : List Order) (prices : List ℤ) (asset : ℕ) (direction : Direction) → IsTowards orders prices asset direction → is_unsettled orders prices asset ≡ true
unsettled_towards orders prices asset Rise above = unsettled_one orders prices asset ∙ ap (λ c. c || is_below orders prices asset) above
unsettled_towards orders prices asset Fall below = unsettled_one orders prices asset ∙ second_of (is_above orders prices asset) (is_below orders prices asset) below

module _ (parts : ℕ) (orders : List Order) (prices : List ℤ) (asset reach d : ℕ) where
  moves : (direction : Direction) → IsTowards orders prices asset direction → IsEnd (asked_towards direction parts orders prices asset) (pos (parts * steepness orders asset)) reach d
      → IsMove parts orders prices asset reach d (set prices asset (price_towards direction (price_of prices asset) d))
  moves Rise above end = inl (record { above = above_is orders prices asset above; least = end.least; most = end.most; first = end.first; ends = end.ends }, refl)
  moves Fall below end =
      inr (
        record {
          below = below_is orders prices asset below;
          least = end.least;
          most = end.most;
          first = λ e one before. omega (arith, ints, end.first e one before);
          ends = ⊎_elim (λ near. inl (omega (arith, ints, near))) inr end.ends;
        },
        refl,
      )

  -- after that amount the prices are those after the move
  pub move_ends : (direction : Direction) → All IsOrder orders → 1 ≤ reach → IsTowards orders prices asset direction
      → IsEnd (asked_towards direction parts orders prices asset) (pos (parts * steepness orders asset)) reach d
      → set prices asset (price_towards direction (price_of prices asset) d) ≡ moved parts orders reach prices asset
  move_ends direction each some towards end =
      let own = moved_is parts orders reach prices asset some (unsettled_towards orders prices asset direction towards) in
      (move_unique parts orders prices asset reach (all_consistent orders each) d own.0 _ _ (moves direction towards end) own.1).1
