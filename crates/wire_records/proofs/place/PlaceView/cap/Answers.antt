use Rattle.std.proofs.Common.{◌∙◌, ap, arith}
use Rattle.wire_records.specs.Commands.{Request}
use Rattle.wire_records.proofs.place.PlaceView.cap.Goals as goal

pub u64_at-requires : goal.u64_at-requires
u64_at-requires c = omega (arith, c.self.invariant.size)

pub returns : goal.returns
returns c = c.u64_at.ensures ∙ ap (λ (r : Request). r.cap) c.self.view_is
