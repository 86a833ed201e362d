use Rattle.std.proofs.Common.{length, sym, ◌∙◌}
use Rattle.std.proofs.lemmas.Simd.{splat_is_map}
use Rattle.curve_checks.proofs.joint.NeverEvenTestsEven.open_parts.Goals as goal

pub returns-clause-parts : goal.returns-clause-parts
returns-clause-parts c =
    c.fill.ensures.after (λ y same. same) ∙ splat_is_map c.args._prices.now (length c.args.into.now) 40 (sym c.requires.room)
