use Rattle.std.proofs.Common.{FitsSigned, ◌+ℤ◌, refl, arith}
use Rattle.std.specs.Int.{w64}
use Rattle.std.proofs.lemmas.Int.{ints, to_z-of_z, fits_signed_from_abs}
use Rattle.flow_accounts.proofs.Accounts.change_units.Goals as goal

pub returns-clause-changed : goal.returns-clause-changed
returns-clause-changed c =
    let total = c.units_total.result in
    let total_fits : FitsSigned w64 total = record { sfits = c.units_total.type_inv } in
    let sum_fits : FitsSigned w64 (total +ℤ c.args.amount) = fits_signed_from_abs w64 (total +ℤ c.args.amount) (omega (arith, ints, c.units_total.ensures.value, c.requires.within_limit, c.requires.fits.total)) in
    rw (c.set_total_units.ensures.set, c.add_units.ensures.moved, to_z-of_z w64 c.args.amount c.ranges.amount, to_z-of_z w64 total total_fits, to_z-of_z w64 (total +ℤ c.args.amount) sum_fits, c.units_total.ensures.value) refl
