use Rattle.std.proofs.Common.{◌∙◌, length, ap, sym}
use Rattle.std.proofs.lemmas.List.{length-take-le}
use Rattle.market_parts.specs.Parts.{Parts}
use Rattle.market_snapshot.specs.Encodings.{parts_encoding}
use Rattle.market_snapshot.proofs.Laid.{all_encoded}
use Rattle.market_snapshot.proofs.view.SnapshotView.len.Goals as goal

pub returns : goal.returns
returns c =
    let v = c.self.inside in
    let kept = c.self.invariant in
    sym (length-take-le v.end v.bytes.now kept.orders.inside)
    ∙ ap length (sym (all_encoded v.bytes.now kept.bytes v.layout kept.layout v.end v.orders.items kept.orders kept.count kept.few))
    ∙ ap (λ (p : Parts). length (parts_encoding p)) c.self.view_is
