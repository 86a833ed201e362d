use Rattle.std.proofs.Common.{◌∙◌, FitsSigned, w64, ap, arith, rules}
use Rattle.std.proofs.lemmas.Int.{to_z-of_z}
use Rattle.wire_records.specs.Commands.{Request}
use Rattle.wire_records.proofs.place.PlaceView.low.Goals as goal

pub i64_at-requires : goal.i64_at-requires
i64_at-requires c = omega (arith, c.self.invariant.size)

pub returns : goal.returns
returns c =
    let fits : FitsSigned w64 c.i64_at.result = search rules in
    to_z-of_z w64 _ fits ∙ c.i64_at.ensures ∙ ap (λ (r : Request). r.low) c.self.view_is
