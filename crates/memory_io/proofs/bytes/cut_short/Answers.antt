use Rattle.std.proofs.Common.{◌≡◌, ◌+◌, ◌-◌, ◌≤◌, ◌++◌, [], ◌∷◌, ℕ, List, replicate, ap, ◌∙◌, arith, append_assoc}
use Rattle.std.proofs.lemmas.List.{replicate_more}
use Rattle.memory_io.proofs.bytes.cut_short.Goals as goal

-- one more byte of the filling
filled : (prefix now : List ℕ) (i whole fill : ℕ) → whole ≤ i → now ≡ (prefix ++ replicate (i - whole) fill) ++ fill ∷ [] → now ≡ prefix ++ replicate (i + 1 - whole) fill
filled prefix now i whole fill le is =
    let next : i - whole + 1 ≡ i + 1 - whole = omega (arith, le) in
    is ∙ append_assoc prefix (replicate (i - whole) fill) (fill ∷ []) ∙ ap (λ (l : List ℕ). prefix ++ l) (replicate_more (i - whole) fill ∙ ap (λ (n : ℕ). replicate n fill) next)

pub loop-preserved : goal.loop-preserved
loop-preserved c =
    let i = c.loop.invariant in
    record {
      torn = filled _ _ c.loop.counter c.min-whole.result c.args.fill (omega arith) (c.push_reserved.ensures.items ∙ ap (λ l. l ++ c.args.fill ∷ []) i.torn);
      len = omega (arith, c.push_reserved.ensures.len, i.len);
      capacity = c.push_reserved.ensures.capacity ∙ i.capacity;
    }
