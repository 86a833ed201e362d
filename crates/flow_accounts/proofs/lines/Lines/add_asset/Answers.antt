use Rattle.std.proofs.Common.{arith}
use Rattle.flow_accounts.proofs.Laying.{IsWide, place_count, wide_enough, widened, added_asset}
use Rattle.flow_accounts.proofs.lines.Lines.add_asset.Goals.{then-self, else-self}
use Rattle.flow_accounts.proofs.lines.Lines.add_asset.Goals as goal

pub widen-requires-clause-held : goal.widen-requires-clause-held
widen-requires-clause-held g c = rw (c.len.ensures, c.from.ensures) (place_count c.self.inside c.self.invariant)

wide : (g : _) (c : goal.After-self-2-1 g) → IsWide c.self.inside c.if-self.self-inside
wide g c =
    elim c.if-self.branch [
      | then-self w ↦ rw w.self-inside-is (widened c.self.inside w.widen.new.units w.places_for-places.result w.len.result w.from.result w.from-then-self.result c.self.invariant w.if-self.true w.places_for-places.ensures.enough w.places_for-places.ensures.few
          w.len.ensures w.from.ensures w.from-then-self.ensures w.widen.ensures.laid w.widen.ensures.capacity)
      | else-self w ↦ rw w.self-inside-is (wide_enough c.self.inside c.self.invariant (omega (arith, w.if-self.false, c.self.invariant.enough)))
    ]

pub invariant_of-self : goal.invariant_of-self
invariant_of-self g c = (added_asset c.self.inside _ c.self.invariant c.self.view_is c.if-self.self-inside (wide g c)).kept

pub returns-clause-added : goal.returns-clause-added
returns-clause-added g c = (added_asset c.self.inside _ c.self.invariant c.self.view_is c.if-self.self-inside (wide g c)).shown
