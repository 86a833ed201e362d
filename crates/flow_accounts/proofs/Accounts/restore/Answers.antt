use Rattle.std.proofs.Common.{◌∙◌, to_z, of_z}
use Rattle.std.specs.Int.{w128}
use Rattle.std.proofs.lemmas.Int.{to_z-of_z}
use Rattle.flow_accounts.specs.declared.Accounts.TheInside.{Inside}
use Rattle.flow_accounts.proofs.Restoring.{all_restored}
use Rattle.flow_accounts.proofs.Standing.{StandsFor}
use Rattle.flow_accounts.proofs.Accounts.restore.Goals as goal

abbrev made : (g : _) → goal.After-totals_of g → Inside
made g c = record { holdings = c.in_ok-holdings.holdings; credits = c.in_ok-credits.credits; total_money = to_z w128 (of_z w128 c.total_money.result); total_units = c.totals_of.result }

restored : (g : _) (c : goal.After-totals_of g) → StandsFor (made g c) (g.P.AccountParts.balances c.args.parts.now)
restored g c =
    all_restored _ c.requires.lawful (made g c) (to_z-of_z w128 c.total_money.result (record { sfits = c.total_money.type_inv }) ∙ c.total_money.ensures) c.totals_of.ensures c.in_ok-holdings.ensures c.in_ok-credits.ensures

pub invariant_of-result : goal.invariant_of-result
invariant_of-result g c = (restored g c).kept

pub returns : goal.returns
returns g c = record { restored = (restored g c).shown }
