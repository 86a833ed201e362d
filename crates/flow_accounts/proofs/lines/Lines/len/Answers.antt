use Rattle.std.proofs.Common.{length, sym, ap, ◌∙◌}
use Rattle.flow_accounts.specs.Lines.{Table}
use Rattle.flow_accounts.proofs.Laying.{line_count}
use Rattle.flow_accounts.proofs.lines.Lines.len.Goals as goal

pub returns : goal.returns
returns g c = c.len.ensures ∙ sym (line_count c.self.inside) ∙ ap (λ (t : Table _ _). length t.lines) c.self.view_is
