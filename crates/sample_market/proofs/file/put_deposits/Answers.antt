use Rattle.std.proofs.Common.{◌-◌, ◌+◌, arith}
use Rattle.sample_market.proofs.Written.{account_more, deposits_written}
use Rattle.sample_market.proofs.file.put_deposits.Goals as goal

pub loop-account-preserved : goal.loop-account-preserved
loop-account-preserved c =
    let before = c.loop-account.invariant in
    let file = c.args.file.now.items in
    let account = c.loop-account.account in
    record {
      some = omega arith;
      written =
          account_more file c.loop-account.file.items c.write_command.new.out.items c.put_units.new.file.items account (account - 1) (account + 1 - 1) before.written (omega (arith, before.some)) (omega (arith, before.some)) c.in_ok-write_command.ensures.written
          c.in_ok-put_units.ensures;
    }

pub returns : goal.returns
returns c = deposits_written c.args.file.now.items c.loop-account.file.items (c.loop-account.account - 1) c.loop-account.invariant.written (omega arith)
