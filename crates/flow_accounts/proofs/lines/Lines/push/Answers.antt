use Rattle.std.proofs.Common.{◌≡◌, ◌+◌, ◌++◌, vec_len, replicate, refl}
use Rattle.flow_accounts.proofs.Laying.{room_there, filled_up, added_line}
use Rattle.flow_accounts.proofs.lines.Lines.push.Goals as goal

pub push_reserved-requires : goal.push_reserved-requires
push_reserved-requires g c = (room_there c.self.inside _ c.self.invariant c.self.view_is c.requires).money

pub unwrap-requires : goal.unwrap-requires
unwrap-requires g c = c.resize.ensures.succeeds (rw (c.len.ensures, c.from.ensures) (room_there c.self.inside _ c.self.invariant c.self.view_is c.requires).units)

grown : (g : _) (c : goal.After-unwrap g) → c.resize.new.self.items ≡ c.self.inside.units.items ++ replicate c.self.inside.places c.self.inside.none
grown g c =
    filled_up c.self.inside.units.items c.resize.new.self.items (c.len.result + c.from.result) (vec_len c.self.inside.units) c.self.inside.places c.self.inside.none
    (rw c.unwrap.ensures at c.resize.ensures.items) c.self.inside.units.ok.0 (rw (c.len.ensures, c.from.ensures) refl)

pub invariant_of-self : goal.invariant_of-self
invariant_of-self g c = (added_line c.self.inside _ c.self.invariant c.self.view_is c.push_reserved.new.self c.resize.new.self c.args.money c.push_reserved.ensures.items c.push_reserved.ensures.capacity (grown g c) c.resize.ensures.capacity c.requires).kept

pub returns-clause-added : goal.returns-clause-added
returns-clause-added g c = (added_line c.self.inside _ c.self.invariant c.self.view_is c.push_reserved.new.self c.resize.new.self c.args.money c.push_reserved.ensures.items c.push_reserved.ensures.capacity (grown g c) c.resize.ensures.capacity c.requires).shown

pub returns-clause-grows : goal.returns-clause-grows
returns-clause-grows g c = (added_line c.self.inside _ c.self.invariant c.self.view_is c.push_reserved.new.self c.resize.new.self c.args.money c.push_reserved.ensures.items c.push_reserved.ensures.capacity (grown g c) c.resize.ensures.capacity c.requires).grows
