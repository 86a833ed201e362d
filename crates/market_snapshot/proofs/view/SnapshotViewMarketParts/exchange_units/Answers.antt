use Rattle.std.proofs.Common.{◌∙◌, ◌+◌, ◌*◌, ap}
use Rattle.std.specs.Prelude.{slice_get}
use Rattle.std.specs.Int.{w64}
use Rattle.byte_places.specs.Places.{signed_at}
use Rattle.market_parts.specs.Parts.{Parts}
use Rattle.market_snapshot.proofs.ReadThere.{slice_told}
use Rattle.market_snapshot.proofs.view.SnapshotViewMarketParts.exchange_units.Goals as goal

pub returns : goal.returns
returns c =
    let l = c.self.inside.layout in
    let bytes = c.self.inside.bytes.now in
    slice_told (λ k. signed_at w64 (l.totals + 32 + 8 * l.assets + 8 * k) bytes) l.assets c.args.asset c.number_in.result (rw c.from.ensures at c.number_in.ensures)
    ∙ ap (λ (p : Parts). slice_get p.exchange.units c.args.asset) c.self.view_is
