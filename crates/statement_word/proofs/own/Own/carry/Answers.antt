use Rattle.std.proofs.Common.{sym, ◌∙◌}
use Rattle.std.proofs.lemmas.Result.{on_ok_weaker, on_err_weaker}
use Rattle.statement_word.proofs.Telling.{open_is_there, shut_is_absent, carried_open, carried_shut}
use Rattle.statement_word.proofs.own.Own.carry.Goals as goal

pub returns-in-Some-clause-carried : goal.returns-in-Some-clause-carried
returns-in-Some-clause-carried c =
    let of = rw c.in-Some.is at c.requires.is_of in
    on_ok_weaker c.finish.result (carried_open c.args.self.now.number c.args.market.now c.in-Some.statement c.args.text.now.items c.finish.new.out.items c.version-consistent.ensures.consistent of (sym c.is_open.ensures ∙ c.if-is_open.true) c.requires.empty) c.finish.ensures.told

pub returns-in-Some-clause-wanted : goal.returns-in-Some-clause-wanted
returns-in-Some-clause-wanted c =
    let of = rw c.in-Some.is at c.requires.is_of in
    on_err_weaker c.finish.result (λ _. open_is_there c.args.self.now.number c.args.market.now c.in-Some.statement of (sym c.is_open.ensures ∙ c.if-is_open.true)) c.finish.ensures.text_stays

pub returns-in-Some-2-clause-carried : goal.returns-in-Some-2-clause-carried
returns-in-Some-2-clause-carried c =
    let of = rw c.in-Some.is at c.requires.is_of in
    carried_shut c.args.self.now.number c.args.market.now c.args.text.now.items (shut_is_absent c.args.self.now.number c.args.market.now c.in-Some.statement of (sym c.is_open.ensures ∙ c.if-is_open.false)) c.requires.empty
