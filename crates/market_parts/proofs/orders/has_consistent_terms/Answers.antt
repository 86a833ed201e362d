use Rattle.std.proofs.Common.{◌∙◌, ◌<◌, FitsSigned, sym, rules}
use Rattle.std.specs.Int.{w64}
use Rattle.std.proofs.lemmas.Int.{to_z-of_z}
use Rattle.market_parts.proofs.orders.has_consistent_terms.Goals as goal

pub returns : goal.returns
returns c =
    let none = sym c.is_some.ensures ∙ c.if-is_some.false in
    let low : FitsSigned w64 c.args.order.low = search rules in
    let high : FitsSigned w64 c.args.order.high = search rules in
    let fine = rw (to_z-of_z w64 c.args.order.low low, to_z-of_z w64 c.args.order.high high) at (c.order_fault.ensures.none.0 none) in (
      λ t. record { limits = fine.0; rate = fine.1; cap = fine.2; left = search rules },
      λ s. let left : c.args.order.filled < c.args.order.cap = s.left in search rules,
    )
