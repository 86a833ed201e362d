use Rattle.std.proofs.Common.{ℕ, ◌≤◌, set, subst, ap}
use Rattle.flow_accounts.specs.Lines.{Line}
use Rattle.flow_accounts.specs.NoCredit.{no_line}
use Rattle.flow_accounts.proofs.StoringLines.{written_credits, unwritten_credits, no_units_set}
use Rattle.flow_accounts.proofs.credit_lines.CreditLines.set_units.Goals as goal

pub invariant_of-self : goal.invariant_of-self
invariant_of-self c =
    (written_credits c.self.inside _ c.store_to.new.stored c.set_units.new.self c.args.place (λ (l : Line ℕ ℕ). record l { units = set l.units c.args.asset c.args.units }) c.self.invariant c.self.view_is c.requires.place c.store_to.ensures.stored c.store_to.ensures.grows
    (c.set_units.ensures (no_line c.self.inside.stored.assets))).kept

pub returns : goal.returns
returns c =
    (written_credits c.self.inside _ c.store_to.new.stored c.set_units.new.self c.args.place (λ (l : Line ℕ ℕ). record l { units = set l.units c.args.asset c.args.units }) c.self.invariant c.self.view_is c.requires.place c.store_to.ensures.stored c.store_to.ensures.grows
    (c.set_units.ensures (no_line c.self.inside.stored.assets))).shown

pub returns-then-place-len : goal.returns-then-place-len
returns-then-place-len c =
    rw c.if-units-eq0.true
    (unwritten_credits c.self.inside _ c.args.place (λ (l : Line ℕ ℕ). record l { units = set l.units c.args.asset 0 }) c.self.view_is (subst (λ n. n ≤ c.args.place) c.len.ensures c.if-place-len.true)
    (ap (λ us. record (no_line c.self.inside.stored.assets) { units = us }) (no_units_set c.self.inside.stored.assets c.args.asset)))
