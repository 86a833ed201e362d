use Rattle.std.proofs.Common.{refl, sym, ◌∙◌}
use Rattle.statement_word.proofs.Telling.{open_is_there, shut_is_absent, far_is_absent, last_lines}
use Rattle.statement_word.proofs.own.Own.finish.Goals as goal

pub returns-in-Ok-clause-closed : goal.returns-in-Ok-clause-closed
returns-in-Ok-clause-closed c =
    let of = rw c.in-Some.is at c.requires.is_of in
    let is = sym c.is_open.ensures ∙ c.if-is_open.true in
    λ pairs. (
      open_is_there c.args.self.now.number c.args.market.now c.in-Some.statement of is,
      last_lines c.args.self.now.number c.args.market.now c.in-Some.statement c.args.text.now.items c.finish.new.out.items c.version-consistent.ensures.consistent of is c.requires.empty c.in-Ok.ensures.told,
    )

pub returns-in-Err-clause-closed : goal.returns-in-Err-clause-closed
returns-in-Err-clause-closed c =
    let of = rw c.in-Some.is at c.requires.is_of in
    λ pairs. open_is_there c.args.self.now.number c.args.market.now c.in-Some.statement of (sym c.is_open.ensures ∙ c.if-is_open.true)

pub returns-in-Some-2-clause-closed : goal.returns-in-Some-2-clause-closed
returns-in-Some-2-clause-closed c =
    let of = rw c.in-Some.is at c.requires.is_of in
    λ pairs. (shut_is_absent c.args.self.now.number c.args.market.now c.in-Some.statement of (sym c.is_open.ensures ∙ c.if-is_open.false), refl, c.requires.empty)

pub returns-in-None-clause-closed : goal.returns-in-None-clause-closed
returns-in-None-clause-closed c = λ pairs. (far_is_absent c.args.self.now.number c.args.market.now c.version-consistent.ensures.consistent ((rw c.in-None.is at c.requires.is_of).1 refl), refl, c.requires.empty)
