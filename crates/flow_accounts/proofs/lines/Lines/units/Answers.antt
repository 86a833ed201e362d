use Rattle.std.proofs.Common.{◌∙◌, arith}
use Rattle.flow_accounts.proofs.Laying.{within, within_width, read_units}
use Rattle.flow_accounts.proofs.lines.Lines.units.Goals as goal

pub overflow_mul-line : goal.overflow_mul-line
overflow_mul-line g c = record { fits = rw c.from.ensures (omega (arith, within_width c.self.inside _ c.self.invariant c.self.view_is c.args.line c.args.asset c.requires.line c.requires.asset)) }

pub overflow_add-line : goal.overflow_add-line
overflow_add-line g c = record { fits = rw (c.from.ensures, c.from-2.ensures) (within_width c.self.inside _ c.self.invariant c.self.view_is c.args.line c.args.asset c.requires.line c.requires.asset) }

pub index-requires : goal.index-requires
index-requires g c = rw (c.from.ensures, c.from-2.ensures) (within c.self.inside _ c.self.invariant c.self.view_is c.args.line c.args.asset c.requires.line c.requires.asset)

pub returns : goal.returns
returns g c = λ d e.
    rw (c.from.ensures, c.from-2.ensures) at c.index.ensures
    ∙ read_units c.self.inside _ c.self.invariant c.self.view_is c.args.line c.args.asset d e _ c.requires.line c.requires.asset
