use Rattle.std.proofs.Common.{◌∙◌, ◌+◌, ◌*◌, ap}
use Rattle.std.specs.Prelude.{slice_get}
use Rattle.byte_places.specs.Places.{part}
use Rattle.market_parts.specs.Parts.{Parts}
use Rattle.market_snapshot.proofs.ReadThere.{slice_told}
use Rattle.market_snapshot.proofs.view.SnapshotViewMarketParts.ticker.Goals as goal

pub returns : goal.returns
returns c =
    let l = c.self.inside.layout in
    let bytes = c.self.inside.bytes.now in
    slice_told (λ k. part (11 + 8 * k) 8 bytes) l.assets c.args.asset c.ticker_in.result c.ticker_in.ensures
    ∙ ap (λ (p : Parts). slice_get p.tickers c.args.asset) c.self.view_is
