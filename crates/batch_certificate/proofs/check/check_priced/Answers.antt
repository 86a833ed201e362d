use Rattle.std.proofs.Common.{◌∙◌, sym, refl}
use Rattle.std.proofs.lemmas.Bool.{false≢true}
use Rattle.batch_certificate.proofs.Verdicts.{residual_verdict, residuals_right, gap_where}
use Rattle.batch_certificate.proofs.check.check_priced.Goals as goal

pub returns-in-Some : goal.returns-in-Some
returns-in-Some g c start priced =
    residual_verdict _ start _ c.args.prices.now _ _ _ c.in-Ok.ensures.residuals c.requires.spreads c.requires.squares c.requires.places c.in-Ok.ensures.right priced _ c.in-Some.ensures.wrong

pub returns-then-is_gap : goal.returns-then-is_gap
returns-then-is_gap g c start priced =
    let gap = gap_where _ (g.P.ClearedParts.clearing c.args.parts.now) _ _ _ _ c.requires.prices c.in-Ok.ensures.residuals c.in-Ok.ensures.lost c.in-Ok.ensures.small c.cost.ensures.value c.cost.ensures.small in (
      residuals_right _ start _ c.args.prices.now _ _ _ c.in-Ok.ensures.residuals c.requires.spreads c.requires.squares c.requires.places c.in-Ok.ensures.right priced c.in_default.ensures.right,
      c.if-is_gap.ensures.0 refl ∙ gap,
    )

pub returns-else-is_gap : goal.returns-else-is_gap
returns-else-is_gap g c start priced =
    let gap = gap_where _ (g.P.ClearedParts.clearing c.args.parts.now) _ _ _ _ c.requires.prices c.in-Ok.ensures.residuals c.in-Ok.ensures.lost c.in-Ok.ensures.small c.cost.ensures.value c.cost.ensures.small in (
      residuals_right _ start _ c.args.prices.now _ _ _ c.in-Ok.ensures.residuals c.requires.spreads c.requires.squares c.requires.places c.in-Ok.ensures.right priced c.in_default.ensures.right,
      λ right. false≢true (c.if-is_gap.ensures.1 (right ∙ sym gap)),
    )
