use Rattle.std.proofs.Common.{ap, arith}
use Rattle.sample_market.specs.Files.{unit_deposit}
use Rattle.sample_market.proofs.Written.{one_numbered, units_written}
use Rattle.sample_market.proofs.file.put_units.Goals as goal

pub loop-asset-preserved : goal.loop-asset-preserved
loop-asset-preserved c =
    one_numbered c.args.file.now.items c.loop-asset.file.items _ (unit_deposit c.args.account) (unit_deposit c.args.account c.from.result) 0 c.loop-asset.asset c.loop-asset.invariant c.in_ok-write_command.ensures.written (ap (unit_deposit c.args.account) (omega (arith, c.from.ensures)))

pub returns : goal.returns
returns c = units_written c.args.file.now.items c.loop-asset.file.items c.args.account c.loop-asset.asset c.loop-asset.invariant (omega arith)
