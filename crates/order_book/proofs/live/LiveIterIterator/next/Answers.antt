use Rattle.std.proofs.Common.{◌≡◌, ◌∷◌, length, sym, ap, ◌∙◌, arith}
use Rattle.order_book.specs.Gaps.{live_in}
use Rattle.order_book.proofs.LiveOrders.{first_live, first_passed}
use Rattle.order_book.proofs.live.LiveIterIterator.next.Goals as goal

-- the order that was read is the first of those that were left
read_first : (c : goal.Then-not-contains) → c.args.self.now ≡ c.in-Some.first.now ∷ live_in c.loop-first.self-inside.gaps.now c.in-Some.others.now
read_first c =
    sym c.loop-first.invariant
    ∙ first_live c.loop-first.self-inside.gaps.now c.loop-first.self-inside.slots.now c.in-Some.others.now c.in-Some.first.now c.in-Some.ensures.cases.0 c.number.result c.number.ensures.value
    (sym c.contains.ensures ∙ c.if-not-contains.true)

pub returns-then-not-contains-clause-steps : goal.returns-then-not-contains-clause-steps
returns-then-not-contains-clause-steps c = read_first c

pub returns-then-not-contains-clause-goes : goal.returns-then-not-contains-clause-goes
returns-then-not-contains-clause-goes c = record { on = λ _. (tt, tt, omega (arith, ap length (read_first c))); keeps = tt; rests = λ _. tt }

pub loop-first-preserved : goal.loop-first-preserved
loop-first-preserved c =
    sym
    (first_passed c.loop-first.self-inside.gaps.now c.loop-first.self-inside.slots.now c.in-Some.others.now c.in-Some.first.now c.in-Some.ensures.cases.0 c.number.result c.number.ensures.value
    (sym c.contains.ensures ∙ c.if-not-contains.false))
    ∙ c.loop-first.invariant
