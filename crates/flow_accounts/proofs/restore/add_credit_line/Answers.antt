use Rattle.flow_accounts.proofs.Restoring.{credit_line_added, read_value}
use Rattle.flow_accounts.proofs.restore.add_credit_line.Goals as goal

pub returns : goal.returns
returns g c = record {
  added =
      credit_line_added _ c.requires.lawful c.args.account c.requires.account c.args.lines.now c.add.new.self c.set_money.new.self c.read_unit_credits.new.lines _ c.requires.before
      (read_value _ _ _ _ c.money_credit.ensures c.unwrap.ensures) c.in_ok-add.ensures.added c.set_money.ensures c.read_unit_credits.ensures;
}
