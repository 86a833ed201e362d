use Rattle.std.proofs.Common.{FitsSigned, rules}
use Rattle.std.specs.Int.{w64, w128}
use Rattle.residual_account.proofs.Standing.{added}
use Rattle.residual_account.proofs.ResidualAccount.add.Goals as goal

pub invariant_of-self : goal.invariant_of-self
invariant_of-self c =
    let held : FitsSigned w64 c.units.result = search rules in
    let money : FitsSigned w128 c.self.inside.money = search rules in
    (added c.self.inside _ c.args.asset c.from.result c.units.result c.args.units c.args.money c.self.invariant c.self.view_is c.requires.asset c.from.ensures c.units.ensures held c.ranges.units c.requires.units_fit money c.ranges.money c.requires.money_fits).kept

pub returns : goal.returns
returns c =
    let held : FitsSigned w64 c.units.result = search rules in
    let money : FitsSigned w128 c.self.inside.money = search rules in
    record { added = (added c.self.inside _ c.args.asset c.from.result c.units.result c.args.units c.args.money c.self.invariant c.self.view_is c.requires.asset c.from.ensures c.units.ensures held c.ranges.units c.requires.units_fit money c.ranges.money c.requires.money_fits).shown }
