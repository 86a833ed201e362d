use Rattle.std.proofs.Common.{sym, ◌∙◌}
use Rattle.order_text.proofs.Named.{found_is_named}
use Rattle.order_text.proofs.fields.asset_named.Goals as goal

pub returns : goal.returns
returns c =
    found_is_named c.args.tickers.now c.args.text.now c.in_ok-padded.field-0 c.find.result (sym c.padded.ensures ∙ c.in_ok-padded.was) c.find.ensures.found c.find.ensures.exact
