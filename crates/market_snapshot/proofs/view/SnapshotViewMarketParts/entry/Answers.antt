use Rattle.std.proofs.Common.{◌≡◌, ◌+◌, ◌*◌, map, Some, refl, ap, sym, ◌∙◌}
use Rattle.std.specs.Prelude.{slice_get, option_map}
use Rattle.std.proofs.lemmas.Bool.{ltb-true}
use Rattle.std.proofs.lemmas.Option.{slice_get-map, slice_get_read}
use Rattle.market_parts.specs.Parts.{Parts, row_of}
use Rattle.market_snapshot.specs.Layout.{entry_at, entries_at, order_at}
use Rattle.market_snapshot.proofs.ReadThere.{slice_told}
use Rattle.market_snapshot.proofs.view.SnapshotViewMarketParts.entry.Goals as goal

pub returns-in-Some : goal.returns-in-Some
returns-in-Some c =
    let bytes = c.self.inside.bytes.now in
    let place = c.in-Some.place.now in
    let read = slice_told (λ j. entry_at (place + 53 + 6 * j) bytes) (entries_at place bytes) c.args.j c.entry_in.result c.entry_in.ensures in
    let found : slice_get c.self.inside.orders.items c.args.k ≡ Some place =
    ap (λ xs. slice_get xs c.args.k) (sym c.deref.ensures.value) ∙ slice_get_read c.deref.result.now _ c.args.k place refl (ltb-true c.args.k _ (sym c.in-Some.ensures.lookup.0)) c.in-Some.ensures.lookup.1 in
    let order : slice_get (map (λ p. order_at p bytes) c.self.inside.orders.items) c.args.k ≡ Some (order_at place bytes) = slice_get-map (λ p. order_at p bytes) c.self.inside.orders.items c.args.k ∙ ap (option_map (λ p. order_at p bytes)) found in
    read ∙ ap (λ o. slice_get (row_of o) c.args.j) (sym order) ∙ ap (λ (p : Parts). slice_get (row_of (slice_get p.orders c.args.k)) c.args.j) c.self.view_is
