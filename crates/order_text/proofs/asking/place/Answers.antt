use Rattle.std.proofs.Common.{sym, ◌∙◌}
use Rattle.std.proofs.lemmas.Bool.{false≢true}
use Rattle.serde_json.specs.View.{view}
use Rattle.order_text.proofs.AskedFor.{placed_without_last, placed_with_seven, placed_without_seven}
use Rattle.order_text.proofs.asking.place.Goals as goal

pub returns-then-not-has_last_batches : goal.returns-then-not-has_last_batches
returns-then-not-has_last_batches c =
    placed_without_last c.args.tickers.now (view c.args.value.now) c.args.version
    (λ has. false≢true (sym c.if-not-has_last_batches.true ∙ c.has_last_batches.ensures.1 has))
    c.place_order.result c.place_order.ensures

pub returns-then-has_keys : goal.returns-then-has_keys
returns-then-has_keys c =
    placed_with_seven c.args.tickers.now (view c.args.value.now) c.args.version (c.has_keys.ensures.0 c.if-has_keys.true) c.place_order-then-has_keys.result c.place_order-then-has_keys.ensures

pub returns : goal.returns
returns c =
    placed_without_seven c.args.tickers.now (view c.args.value.now) c.args.version (c.has_last_batches.ensures.0 c.if-not-has_last_batches.false)
    (λ keys. false≢true (sym c.if-has_keys.false ∙ c.has_keys.ensures.1 keys)) c.place_until.result c.place_until.ensures
