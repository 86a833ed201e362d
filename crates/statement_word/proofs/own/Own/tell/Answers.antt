use Rattle.std.proofs.Common.{refl}
use Rattle.std.proofs.lemmas.Result.{on_ok_weaker}
use Rattle.statement_word.proofs.Telling.{told_pair, untold_pair}
use Rattle.statement_word.proofs.own.Own.tell.Goals as goal

pub pair-requires-clause-agrees : goal.pair-requires-clause-agrees
pair-requires-clause-agrees c = (c.requires.is_of.0 c.in-Some.statement c.in-Some.is).1

pub returns-in-Some-clause-told : goal.returns-in-Some-clause-told
returns-in-Some-clause-told c = on_ok_weaker c.pair.result
    (λ told. λ next legal. told_pair c.args.self.now.number c.args.market.now c.args.pair.now c.in-Some.statement c.pair.new.self c.args.text.now.items c.pair.new.out.items next legal
    (rw c.in-Some.is at c.requires.is_of) c.pair.ensures.account c.requires.empty (told next legal))
    c.pair.ensures.told

pub returns-in-None-clause-told : goal.returns-in-None-clause-told
returns-in-None-clause-told c = λ next legal.
    rw c.in-None.is (untold_pair c.args.self.now.number c.args.market.now c.args.pair.now c.args.text.now.items next legal c.version-consistent.ensures.consistent ((rw c.in-None.is at c.requires.is_of).1 refl) c.requires.empty)
