use Rattle.std.proofs.Common.{◌*◌, ◌<◌, ◌≤◌, ◌∙◌, sym, arith}
use Rattle.demand_curve.proofs.Parts.{parts_cut, parts_free}
use Rattle.demand_curve.proofs.rounding.PartRoundings.of_least.Goals as goal

pub of_fraction-requires-clause-below : goal.of_fraction-requires-clause-below
of_fraction-requires-clause-below c =
    let free : c.args.n < c.args.room * c.args.d = rw (← c.from-3.ensures, ← c.from-4.ensures) (omega arith) in
    rw (c.from-else-from-n.ensures, c.from.ensures, c.from-2.ensures) (parts_free c.args.parts c.args.n c.args.room c.args.d c.requires.some free).1

pub returns-then-from-n-clause-floor : goal.returns-then-from-n-clause-floor
returns-then-from-n-clause-floor c =
    let cut : c.args.room * c.args.d ≤ c.args.n = rw (← c.from-3.ensures, ← c.from-4.ensures) (omega arith) in
    let both = parts_cut c.args.parts c.args.n c.args.room c.args.d c.requires.positive cut in
    c.of_whole.ensures.floor ∙ rw (c.from.ensures, c.from-2.ensures) (sym both.0)

pub returns-then-from-n-clause-ceil : goal.returns-then-from-n-clause-ceil
returns-then-from-n-clause-ceil c =
    let cut : c.args.room * c.args.d ≤ c.args.n = rw (← c.from-3.ensures, ← c.from-4.ensures) (omega arith) in
    let both = parts_cut c.args.parts c.args.n c.args.room c.args.d c.requires.positive cut in
    c.of_whole.ensures.ceil ∙ rw (c.from.ensures, c.from-2.ensures) (sym both.1)
