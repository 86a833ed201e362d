use Rattle.std.proofs.Common.{◌≡◌, rules}
use Rattle.demand_curve.specs.Numbers.{distance}
use Rattle.demand_curve.specs.Curve.{terms}
use Rattle.demand_curve.proofs.Limits.{below_high_most}
use Rattle.demand_curve.proofs.Curve.below_high.Goals as goal

pub returns-clause-most : goal.returns-clause-most
returns-clause-most c =
    let value : c.distance.result ≡ distance c.args.self.now.high c.args.price = search rules in
    rw value (below_high_most (terms c.args.self.now) _ c.args.self.now.within_limits c.requires.in_range)
