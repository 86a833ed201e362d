use Rattle.std.proofs.Common.{List, ℕ, length, ap, arith}
use Rattle.line_keeping.proofs.opening.LinesInput.open_first.Goals as goal

pub returns-in-Ok-open_input-clause-opens : goal.returns-in-Ok-open_input-clause-opens
returns-in-Ok-open_input-clause-opens g c =
    c.in-Ok-open_input.ensures.opens (omega (arith, c.held-held.ensures.few, ap (λ (l : List ℕ). length l) c.held-held.ensures.held, c.in-Ok-open_input.ensures.opened.room))
