use Rattle.std.proofs.Common.{◌≤◌, Err, length, take, drop, ap, sym, subst}
use Rattle.market_parts.specs.Parts.{Parts}
use Rattle.market_snapshot.specs.Checkpoints.{IsCheckpoint}
use Rattle.market_snapshot.specs.Encodings.{parts_encoding}
use Rattle.market_snapshot.proofs.OneMarket.{no_view, unsound, found}
use Rattle.market_snapshot.proofs.reading.read_market.Goals as goal

pub returns-in-Err : goal.returns-in-Err
returns-in-Err c = no_view c.in-Err.fault c.args.bytes.now c.in-Err.ensures.none

pub returns-in-Err-Unsound : goal.returns-in-Err-Unsound
returns-in-Err-Unsound c =
    let p : Parts = c.in-Ok.view in
    unsound p c.args.bytes.now (drop (length (parts_encoding p)) c.args.bytes.now) c.in-Ok.ensures.fits c.in-Ok.ensures.begins (c.in-Err-Unsound.ensures.unsound (ap Err c.in-Err-Unsound.field-0-is))

pub returns : goal.returns
returns c =
    let p : Parts = c.in-Ok.view in
    let read = found p c.in-Ok-restore.market c.args.bytes.now (drop (length (parts_encoding p)) c.args.bytes.now) c.in-Ok.ensures.fits c.in-Ok.ensures.begins c.in-Ok-restore.ensures.restored c.in-Ok-restore.ensures.consistent in
    subst (λ n. IsCheckpoint c.in-Ok-restore.market (take n c.args.bytes.now) × (n ≤ length c.args.bytes.now)) (sym c.len.ensures) read
