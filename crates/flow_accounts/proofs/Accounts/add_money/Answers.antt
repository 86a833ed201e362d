use Rattle.std.specs.Int.{w128}
use Rattle.std.proofs.Common.{◌≡◌, ◌+ℤ◌, FitsSigned, refl, sym, subst, ◌∙◌, arith, None}
use Rattle.std.proofs.lemmas.Int.{ints, to_z-of_z, fits_signed_from_abs}
use Rattle.flow_accounts.specs.Balances.{money_of, move_balance}
use Rattle.flow_accounts.specs.Lines.{Table}
use Rattle.flow_accounts.specs.NoCredit.{no_holding}
use Rattle.flow_accounts.proofs.Holdings.{money_is, money_then, moved_money}
use Rattle.flow_accounts.proofs.Standing.{StandsFor}
use Rattle.flow_accounts.proofs.Accounts.add_money.Goals as goal

held : (c : goal.After-set_money-arg-1) → c.money-held.result ≡ money_of c.args.self.now c.args.account
held c = c.money-held.ensures no_holding ∙ money_is c.self.inside _ c.args.account c.self.invariant c.self.view_is c.requires.account no_holding

fits : (c : goal.After-set_money-arg-1) → FitsSigned w128 (money_of c.args.self.now c.args.account +ℤ c.args.amount)
fits c =
    let after = money_then c.self.inside _ c.args.account c.self.invariant c.self.view_is c.requires.account c.args.amount c.requires.within_credit c.requires.fits in
    fits_signed_from_abs w128 (money_of c.args.self.now c.args.account +ℤ c.args.amount) (omega (arith, ints, after.0, after.1))

pub overflow_add-held : goal.overflow_add-held
overflow_add-held c = rw (to_z-of_z w128 c.money-held.result (record { sfits = c.money-held.type_inv }), to_z-of_z w128 c.args.amount c.ranges.amount, held c) (fits c)

given : (c : goal.After-set_money) → StandsFor (record (c.self.inside) { holdings = c.set_money.new.self }) (move_balance c.args.self.now c.args.account None c.args.amount)
given c =
    subst (λ (t : Table _ _). StandsFor (record (c.self.inside) { holdings = t }) (move_balance c.args.self.now c.args.account None c.args.amount)) (sym (c.set_money.ensures no_holding))
    (moved_money c.self.inside _ c.args.account c.self.invariant c.self.view_is c.requires.account no_holding c.args.amount _ c.requires.within_credit c.requires.fits
    (rw (to_z-of_z w128 c.money-held.result (record { sfits = c.money-held.type_inv }), to_z-of_z w128 c.args.amount c.ranges.amount, held c.before, to_z-of_z w128 (money_of c.args.self.now c.args.account +ℤ c.args.amount) (fits c.before)) refl))

pub invariant_of-self : goal.invariant_of-self
invariant_of-self c = (given c).kept

pub returns-clause-moved : goal.returns-clause-moved
returns-clause-moved c = (given c).shown

pub returns-clause-lawful : goal.returns-clause-lawful
returns-clause-lawful c = (given c).kept.lawful
