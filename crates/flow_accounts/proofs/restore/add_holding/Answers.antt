use Rattle.std.specs.Int.{w128}
use Rattle.std.proofs.lemmas.Int.{to_z-of_z}
use Rattle.flow_accounts.proofs.Restoring.{holding_added, read_value}
use Rattle.flow_accounts.proofs.restore.add_holding.Goals as goal

pub returns-clause-added : goal.returns-clause-added
returns-clause-added g c =
    holding_added _ c.requires.lawful c.args.account c.requires.account c.args.holdings.now c.push.new.self c.read_units.new.holdings _ c.requires.before
    (rw (to_z-of_z w128 c.unwrap.result (record { sfits = c.unwrap.type_inv })) (read_value _ _ _ _ c.money.ensures c.unwrap.ensures)) c.push.ensures.added c.read_units.ensures
