use Rattle.std.proofs.Common.{◌∙◌, sym, ap}
use Rattle.std.proofs.lemmas.Option.{slice_get-get_or}
use Rattle.std.specs.Prelude.{option_map}
use Rattle.market_parts.specs.Parts.{numbers_of}
use Rattle.market_parts.specs.Tests.{no_order}
use Rattle.market_parts.proofs.Making.{some_of, same_some}
use Rattle.market_parts.proofs.orders.numbers_at.Goals as goal

pub unwrap-requires : goal.unwrap-requires
unwrap-requires g c =
    let read = slice_get-get_or (g.P.MarketParts.parts c.args.parts.now).orders c.args.place no_order c.requires in
    some_of _ _ (c.order.ensures ∙ ap (option_map numbers_of) read)

pub returns : goal.returns
returns g c =
    let read = slice_get-get_or (g.P.MarketParts.parts c.args.parts.now).orders c.args.place no_order c.requires in
    same_some _ _ (sym c.unwrap.ensures ∙ c.order.ensures ∙ ap (option_map numbers_of) read)
