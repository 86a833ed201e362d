use Rattle.std.proofs.Common.{ap, arith}
use Rattle.sample_market.specs.Files.{new_asset}
use Rattle.sample_market.proofs.Written.{one_numbered, assets_written}
use Rattle.sample_market.proofs.file.put_assets.Goals as goal

pub loop-asset-preserved : goal.loop-asset-preserved
loop-asset-preserved c = one_numbered c.args.file.now.items c.loop-asset.file.items _ new_asset (new_asset c.loop-asset.asset) 0 c.loop-asset.asset c.loop-asset.invariant c.in_ok-write_command.ensures.written (ap new_asset (omega arith))

pub returns : goal.returns
returns c = assets_written c.args.file.now.items c.loop-asset.file.items c.loop-asset.asset c.loop-asset.invariant (omega arith)
