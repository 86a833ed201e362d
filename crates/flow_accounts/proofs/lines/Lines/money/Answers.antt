use Rattle.std.proofs.Common.{◌<◌, subst, ◌∙◌}
use Rattle.flow_accounts.proofs.Laying.{line_count, line_there, read_money}
use Rattle.flow_accounts.proofs.lines.Lines.money.Goals as goal

pub index-requires : goal.index-requires
index-requires g c = subst (λ n. c.args.line < n) (line_count c.self.inside) (line_there c.self.inside _ c.self.invariant c.self.view_is c.args.line c.requires)

pub returns : goal.returns
returns g c = λ d. c.index.ensures ∙ read_money c.self.inside _ c.self.invariant c.self.view_is c.args.line d c.index.result.now c.requires
