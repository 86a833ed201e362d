use Rattle.std.proofs.Common.{arith}
use mir.Syntax.{w64}
use Rattle.std.proofs.lemmas.Int.{to_z-of_z}
use Rattle.flow_accounts.specs.Balances.{units_of}
use Rattle.account_statement.proofs.Carrying.{units_more}
use Rattle.account_statement.proofs.carried.all_units.Goals as goal

pub loop-asset-preserved : goal.loop-asset-preserved
loop-asset-preserved c = (
  omega (arith, c.push_reserved.ensures.len, c.loop-asset.invariant.0),
  units_more c.args.account c.loop-asset.asset (units_of c.args.accounts.now c.args.account) c.loop-asset.units.items c.push_reserved.new.self.items c.units_in.result c.loop-asset.invariant.1
      (rw (to_z-of_z w64 _ (record { sfits = c.units_in.type_inv })) at c.push_reserved.ensures.items) c.units_in.ensures,
  omega (arith, c.push_reserved.ensures.capacity, c.loop-asset.invariant.2),
)
