use Rattle.std.proofs.Common.{sym, ◌∙◌, arith}
use Rattle.std.proofs.lemmas.Fmt.{decimal_injective}
use Rattle.flow_exchange.proofs.sample_form.orders_of.Goals as goal

pub returns-in-Some-2-clause-none : goal.returns-in-Some-2-clause-none
returns-in-Some-2-clause-none c = λ orders some few is.
    let read = c.in-Some.ensures.number in
    absurd (omega (arith, decimal_injective c.in-Some.orders orders read.1 (omega (arith, few)) (sym read.0 ∙ is), some, few))

pub returns-in-Some-2-2-clause-none : goal.returns-in-Some-2-2-clause-none
returns-in-Some-2-2-clause-none c = λ orders some few is.
    let read = c.in-Some.ensures.number in
    absurd (omega (arith, decimal_injective c.in-Some.orders orders read.1 (omega (arith, few)) (sym read.0 ∙ is), some, few))
