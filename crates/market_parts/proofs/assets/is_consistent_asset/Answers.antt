use Rattle.std.proofs.Common.{◌∙◌, pos, sym}
use Rattle.std.proofs.lemmas.Int.{to_z-of_z}
use Rattle.std.specs.Int.{w64}
use Rattle.market_parts.proofs.Below.{refuted}
use Rattle.std.proofs.lemmas.Option.{get_or_from_slice_get}
use Rattle.market_parts.proofs.assets.is_consistent_asset.Goals as goal

pub returns-then-not-is_price : goal.returns-then-not-is_price
returns-then-not-is_price g c =
    let price = to_z-of_z w64 c.unwrap.result (record { sfits = c.unwrap.type_inv }) ∙ sym (get_or_from_slice_get _ c.args.asset c.unwrap.result (pos 0) (sym c.last_price.ensures ∙ c.unwrap.ensures)) in
    refuted c.is_price.ensures c.if-not-is_price.true (λ s. rw price s.price)

pub returns-then-not-is_within_batches : goal.returns-then-not-is_within_batches
returns-then-not-is_within_batches g c =
    let exchange = to_z-of_z w64 c.unwrap-exchange.result (record { sfits = c.unwrap-exchange.type_inv }) ∙ sym (get_or_from_slice_get _ c.args.asset c.unwrap-exchange.result (pos 0) (sym c.exchange_units.ensures ∙ c.unwrap-exchange.ensures)) in
    refuted c.is_within_batches.ensures c.if-not-is_within_batches.true (λ s. rw (exchange, c.batches.ensures) s.exchange)

pub returns : goal.returns
returns g c =
    let price = to_z-of_z w64 c.unwrap.result (record { sfits = c.unwrap.type_inv }) ∙ sym (get_or_from_slice_get _ c.args.asset c.unwrap.result (pos 0) (sym c.last_price.ensures ∙ c.unwrap.ensures)) in
    let exchange = to_z-of_z w64 c.unwrap-exchange.result (record { sfits = c.unwrap-exchange.type_inv }) ∙ sym (get_or_from_slice_get _ c.args.asset c.unwrap-exchange.result (pos 0) (sym c.exchange_units.ensures ∙ c.unwrap-exchange.ensures)) in (
      λ t. record {
        price = rw price at (c.is_price.ensures.0 c.if-not-is_price.false);
        exchange = rw (exchange, c.batches.ensures) at (c.is_within_batches.ensures.0 c.if-not-is_within_batches.false);
        held = rw exchange at (c.are_units_held.ensures.0 t);
      },
      λ s. c.are_units_held.ensures.1 (rw exchange s.held),
    )
