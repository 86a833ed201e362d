use Rattle.std.proofs.Common.{◌≡◌, ◌+◌, ◌*◌, set, ap, refl, arith}
use Rattle.std.specs.Vec.{with_item}
use Rattle.flow_accounts.proofs.Laying.{within, within_width, some_line, written_units}
use Rattle.flow_accounts.proofs.lines.Lines.set_units.Goals as goal

pub overflow_mul-line : goal.overflow_mul-line
overflow_mul-line g c = record { fits = rw c.from.ensures (omega (arith, within_width c.self.inside _ c.self.invariant c.self.view_is c.args.line c.args.asset c.requires.line c.requires.asset)) }

pub overflow_add-line : goal.overflow_add-line
overflow_add-line g c = record { fits = rw (c.from.ensures, c.from-2.ensures) (within_width c.self.inside _ c.self.invariant c.self.view_is c.args.line c.args.asset c.requires.line c.requires.asset) }

pub index_mut-requires : goal.index_mut-requires
index_mut-requires g c = rw (c.from.ensures, c.from-2.ensures) (within c.self.inside _ c.self.invariant c.self.view_is c.args.line c.args.asset c.requires.line c.requires.asset)

place : (g : _) (c : goal.After-self-1 g) → c.args.line * c.from.result + c.from-2.result ≡ c.args.line * c.self.inside.places + c.args.asset
place g c = rw (c.from.ensures, c.from-2.ensures) refl

pub invariant_of-self : goal.invariant_of-self
invariant_of-self g c =
    (written_units c.self.inside _ c.self.invariant c.self.view_is (with_item c.self.inside.units (c.args.line * c.from.result + c.from-2.result) c.args.amount) c.args.line c.args.asset c.args.amount
    (some_line c.self.inside _ c.self.invariant c.self.view_is c.args.line c.requires.line)
    (ap (λ i. set c.self.inside.units.items i c.args.amount) (place g c)) refl c.requires.line c.requires.asset).kept

pub returns : goal.returns
returns g c = λ d.
    (written_units c.self.inside _ c.self.invariant c.self.view_is (with_item c.self.inside.units (c.args.line * c.from.result + c.from-2.result) c.args.amount) c.args.line c.args.asset c.args.amount d
    (ap (λ i. set c.self.inside.units.items i c.args.amount) (place g c)) refl c.requires.line c.requires.asset).shown
