use Rattle.std.proofs.Common.{rules}
use Rattle.std.proofs.lemmas.List.Sorted.{answers_always}
use Rattle.order_book.proofs.Found.{told}
use Rattle.order_book.proofs.book.place_of.Goals as goal

pub returns : goal.returns
returns c =
    let facts = c.binary_search_by_key.ensures in
    let by_number = facts.position (λ o. o.number) (answers_always _ _ _ (λ f a r g called. search rules)) in
    told c.args.slots.now c.requires c.args.number _ _ c.ok.ensures.value facts.bound by_number
