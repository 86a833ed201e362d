-- A walk of one move more, and a valid walk in two parts.
use Rattle.std.proofs.Common.{◌≡◌, ℕ, Bool, List, [], ◌∷◌, ◌++◌, refl}
use Rattle.flow_orders.specs.Walks.{walk_end, IsLegal}

module _ {P : Type 0} (n : ℕ) (unsettled : P → ℕ → Bool) (move : P → ℕ → P) where
  -- the end of a walk of one move more
  pub walk_end-push : (p : P) (v : List ℕ) (a : ℕ) → walk_end move p (v ++ a ∷ []) ≡ move (walk_end move p v) a
  walk_end-push p [] a = refl
  walk_end-push p (b ∷ v) a = walk_end-push (move p b) v a

  -- two valid walks, one from the end of the other, are one valid walk
  pub legal-append : (p : P) (v w : List ℕ) → IsLegal n unsettled move p v → IsLegal n unsettled move (walk_end move p v) w → IsLegal n unsettled move p (v ++ w)
  legal-append p [] w prefix back = back
  legal-append p (a ∷ v) w prefix back = (prefix.0, prefix.1, legal-append (move p a) v w prefix.2 back)

  pub legal_parts : (p : P) (v w : List ℕ) → IsLegal n unsettled move p (v ++ w) → IsLegal n unsettled move p v × IsLegal n unsettled move (walk_end move p v) w
  legal_parts p [] w legal = (tt, legal)
  legal_parts p (a ∷ v) w legal =
      let rest = legal_parts (move p a) v w legal.2 in
      ((legal.0, legal.1, rest.0), rest.1)
