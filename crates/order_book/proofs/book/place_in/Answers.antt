use Rattle.std.proofs.Common.{sym, ap, ◌∙◌, arith}
use Rattle.order_book.specs.Gaps.{is_gap}
use Rattle.order_book.proofs.LiveOrders.{none_has, gap_has, other_has, has_here, contains_live}
use Rattle.order_book.proofs.book.place_in.Goals as goal

pub returns-in_err-place-clause-there : goal.returns-in_err-place-clause-there
returns-in_err-place-clause-there c =
    rw c.from_residual.ensures (none_has c.args.gaps.now c.args.slots.now c.args.account c.args.number c.in_err-place.ensures)

pub returns-then-account-clause-there : goal.returns-then-account-clause-there
returns-then-account-clause-there c has =
    c.if-account.true (c.account.ensures.value ∙ other_has c.args.gaps.now c.args.slots.now c.args.account c.args.number c.in_ok-place.place c.index-slots-place.result c.requires c.in_ok-place.ensures c.index-slots-place.is has)

pub returns-then-contains-clause-there : goal.returns-then-contains-clause-there
returns-then-contains-clause-there c =
    gap_has c.args.gaps.now c.args.slots.now c.args.account c.args.number (sym c.contains.ensures ∙ c.if-contains.true)

pub returns-clause-there : goal.returns-clause-there
returns-clause-there c =
    has_here c.args.gaps.now c.args.slots.now c.args.account c.args.number c.in_ok-place.place c.index-slots-place.result c.in_ok-place.ensures c.index-slots-place.is
    (omega (arith, c.if-account.false, c.account.ensures.value)) (sym c.contains.ensures ∙ c.if-contains.false)

pub returns-clause-live : goal.returns-clause-live
returns-clause-live c d =
    contains_live c.args.gaps.now c.args.slots.now c.in_ok-place.place d c.in_ok-place.ensures.within
    (ap (is_gap c.args.gaps.now) (c.in_ok-place.ensures.found d) ∙ sym c.contains.ensures ∙ c.if-contains.false)
