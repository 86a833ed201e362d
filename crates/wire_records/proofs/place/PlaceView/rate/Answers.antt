use Rattle.std.proofs.Common.{◌∙◌, ap, arith}
use Rattle.wire_records.specs.Commands.{Request}
use Rattle.wire_records.proofs.place.PlaceView.rate.Goals as goal

pub u32_at-requires : goal.u32_at-requires
u32_at-requires c = omega (arith, c.self.invariant.size)

pub returns : goal.returns
returns c = c.u32_at.ensures ∙ ap (λ (r : Request). r.rate) c.self.view_is
