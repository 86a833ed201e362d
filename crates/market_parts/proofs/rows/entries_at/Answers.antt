use Rattle.std.proofs.Common.{◌∙◌, pos, sym, ap, arith}
use Rattle.std.proofs.lemmas.Option.{slice_get-get_or}
use Rattle.market_parts.proofs.Making.{element_more}
use Rattle.std.proofs.lemmas.List.{take_all}
use Rattle.std.specs.Prelude.{slice_get}
use Rattle.weight_rows.specs.declared.entries.Entry.{Entry}
use Rattle.market_parts.specs.Tests.{order_at}
use Rattle.market_parts.proofs.Making.{some_of, row_read}
use Rattle.market_parts.proofs.rows.entries_at.Goals as goal

pub unwrap-requires : goal.unwrap-requires
unwrap-requires g c =
    let p = g.P.MarketParts.parts c.args.parts.now in
    let e : Entry = record { asset = 0; weight = pos 0 } in
    some_of _ _ (c.entry.ensures ∙ ap (λ row. slice_get row c.loop-k.k) (row_read p c.args.place c.requires.place) ∙ slice_get-get_or (order_at p c.args.place).row c.loop-k.k e (omega (arith, c.loop-k-test.true, c.requires.entries)))

pub loop-k-preserved : goal.loop-k-preserved
loop-k-preserved g c =
    let p = g.P.MarketParts.parts c.args.parts.now in
    let read = sym (c.entry.ensures ∙ ap (λ row. slice_get row c.loop-k.k) (row_read p c.args.place c.requires.place)) ∙ c.unwrap.ensures in
    element_more (order_at p c.args.place).row c.loop-k.list.items _ c.loop-k.k c.unwrap.result read (omega (arith, c.loop-k-test.true, c.requires.entries)) c.loop-k.invariant c.push_reserved.ensures.items

pub returns : goal.returns
returns g c =
    let p = g.P.MarketParts.parts c.args.parts.now in
    c.new.ensures ∙ c.loop-k.invariant ∙ take_all c.loop-k.k (order_at p c.args.place).row (omega (arith, c.loop-k-test.false, c.requires.entries))
