use Rattle.std.proofs.Common.{refl}
use Rattle.statement_word.proofs.Telling.{carried, closed_at}
use Rattle.statement_word.proofs.stating.StatingOnPair.end.Goals as goal

pub finish-requires-clause-is_of : goal.finish-requires-clause-is_of
finish-requires-clause-is_of c =
    let own = c.args.self.now.own in
    carried own.number own.number c.args.audit.now c.market.result.now own.statement own.statement refl c.market.ensures.value refl c.requires.within

pub returns-clause-closed : goal.returns-clause-closed
returns-clause-closed c =
    closed_at c.args.self.now.own.number c.args.audit.now c.market.result.now c.args._pairs c.finish.result c.finish.new.text.items c.market.ensures.value (c.finish.ensures.closed c.args._pairs)
