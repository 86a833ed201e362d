use Rattle.std.proofs.Common.{FitsSigned, ◌+ℤ◌, refl, arith}
use Rattle.std.specs.Int.{w128}
use Rattle.std.proofs.lemmas.Int.{ints, to_z-of_z, fits_signed_from_abs}
use Rattle.flow_accounts.proofs.Accounts.change_money.Goals as goal

pub returns-clause-changed : goal.returns-clause-changed
returns-clause-changed c =
    let total = c.total_money.result in
    let total_fits : FitsSigned w128 total = record { sfits = c.total_money.type_inv } in
    let sum_fits : FitsSigned w128 (total +ℤ c.args.amount) = fits_signed_from_abs w128 (total +ℤ c.args.amount) (omega (arith, ints, c.total_money.ensures.total, c.requires.within_limit, c.requires.fits.total)) in
    rw (c.set_total_money.ensures.set, c.add_money.ensures.moved, to_z-of_z w128 c.args.amount c.ranges.amount, to_z-of_z w128 total total_fits, to_z-of_z w128 (total +ℤ c.args.amount) sum_fits, c.total_money.ensures.total) refl
