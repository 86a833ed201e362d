use Rattle.std.proofs.Common.{◌<◌, refl, subst}
use Rattle.std.specs.Vec.{with_item}
use Rattle.flow_accounts.proofs.Laying.{line_count, line_there, some_line, written_money}
use Rattle.flow_accounts.proofs.lines.Lines.set_money.Goals as goal

pub index_mut-requires : goal.index_mut-requires
index_mut-requires g c = subst (λ n. c.args.line < n) (line_count c.self.inside) (line_there c.self.inside _ c.self.invariant c.self.view_is c.args.line c.requires)

pub invariant_of-self : goal.invariant_of-self
invariant_of-self g c =
    (written_money c.self.inside _ c.self.invariant c.self.view_is (with_item c.self.inside.money c.args.line c.args.amount) c.args.line c.args.amount
    (some_line c.self.inside _ c.self.invariant c.self.view_is c.args.line c.requires) refl refl refl c.requires).kept

pub returns : goal.returns
returns g c = λ d. (written_money c.self.inside _ c.self.invariant c.self.view_is (with_item c.self.inside.money c.args.line c.args.amount) c.args.line c.args.amount d refl refl refl c.requires).shown
