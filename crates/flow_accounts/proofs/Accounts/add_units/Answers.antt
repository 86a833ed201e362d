use Rattle.std.specs.Int.{w64}
use Rattle.std.proofs.Common.{◌≡◌, ◌+ℤ◌, FitsSigned, refl, sym, subst, ◌∙◌, arith, pos, Some}
use Rattle.std.proofs.lemmas.Int.{ints, to_z-of_z, fits_signed_from_abs}
use Rattle.flow_accounts.specs.Balances.{units_of, move_balance}
use Rattle.flow_accounts.specs.Lines.{Table}
use Rattle.flow_accounts.specs.NoCredit.{no_holding}
use Rattle.flow_accounts.proofs.Holdings.{units_are, units_then, moved_units}
use Rattle.flow_accounts.proofs.Standing.{StandsFor}
use Rattle.flow_accounts.proofs.Accounts.add_units.Goals as goal

held : (c : goal.After-set_units-arg-1) → c.units-held.result ≡ units_of c.args.self.now c.args.account c.args.asset
held c = c.units-held.ensures no_holding (pos 0) ∙ units_are c.self.inside _ c.args.account c.self.invariant c.self.view_is c.requires.account no_holding c.args.asset

fits : (c : goal.After-set_units-arg-1) → FitsSigned w64 (units_of c.args.self.now c.args.account c.args.asset +ℤ c.args.amount)
fits c =
    let after = units_then c.self.inside _ c.args.account c.self.invariant c.self.view_is c.requires.account c.args.asset c.args.amount c.requires.asset c.requires.within_credit c.requires.fits in
    fits_signed_from_abs w64 (units_of c.args.self.now c.args.account c.args.asset +ℤ c.args.amount) (omega (arith, ints, after.0, after.1))

pub overflow_add-held : goal.overflow_add-held
overflow_add-held c = rw (to_z-of_z w64 c.units-held.result (record { sfits = c.units-held.type_inv }), to_z-of_z w64 c.args.amount c.ranges.amount, held c) (fits c)

given : (c : goal.After-set_units) → StandsFor (record (c.self.inside) { holdings = c.set_units.new.self }) (move_balance c.args.self.now c.args.account (Some c.args.asset) c.args.amount)
given c =
    subst (λ (t : Table _ _). StandsFor (record (c.self.inside) { holdings = t }) (move_balance c.args.self.now c.args.account (Some c.args.asset) c.args.amount)) (sym (c.set_units.ensures no_holding))
    (moved_units c.self.inside _ c.args.account c.self.invariant c.self.view_is c.requires.account no_holding c.args.asset c.args.amount _ c.requires.asset c.requires.within_credit c.requires.fits
    (rw (to_z-of_z w64 c.units-held.result (record { sfits = c.units-held.type_inv }), to_z-of_z w64 c.args.amount c.ranges.amount, held c.before, to_z-of_z w64 (units_of c.args.self.now c.args.account c.args.asset +ℤ c.args.amount) (fits c.before)) refl))

pub invariant_of-self : goal.invariant_of-self
invariant_of-self c = (given c).kept

pub returns-clause-moved : goal.returns-clause-moved
returns-clause-moved c = (given c).shown

pub returns-clause-lawful : goal.returns-clause-lawful
returns-clause-lawful c = (given c).kept.lawful
