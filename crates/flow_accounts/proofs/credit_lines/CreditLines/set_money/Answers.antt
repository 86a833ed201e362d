use Rattle.std.proofs.Common.{ℕ}
use Rattle.flow_accounts.specs.Lines.{Line}
use Rattle.flow_accounts.specs.NoCredit.{no_line}
use Rattle.flow_accounts.proofs.StoringLines.{written_credits}
use Rattle.flow_accounts.proofs.credit_lines.CreditLines.set_money.Goals as goal

pub invariant_of-self : goal.invariant_of-self
invariant_of-self c =
    (written_credits c.self.inside _ c.store_to.new.stored c.set_money.new.self c.args.place (λ (l : Line ℕ ℕ). record l { money = c.args.ticks }) c.self.invariant c.self.view_is c.requires c.store_to.ensures.stored c.store_to.ensures.grows
    (c.set_money.ensures (no_line c.self.inside.stored.assets))).kept

pub returns : goal.returns
returns c =
    (written_credits c.self.inside _ c.store_to.new.stored c.set_money.new.self c.args.place (λ (l : Line ℕ ℕ). record l { money = c.args.ticks }) c.self.invariant c.self.view_is c.requires c.store_to.ensures.stored c.store_to.ensures.grows
    (c.set_money.ensures (no_line c.self.inside.stored.assets))).shown
