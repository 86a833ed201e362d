use Rattle.wire_records.proofs.write.put_command.Goals as goal

pub returns-in-AddAsset-clause-fits : goal.returns-in-AddAsset-clause-fits
returns-in-AddAsset-clause-fits c = rw c.in-AddAsset.is c.put_ticker.ensures.fits
