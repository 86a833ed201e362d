use Rattle.std.proofs.Common.{refl}
use Rattle.statement_word.proofs.Telling.{carried}
use Rattle.statement_word.proofs.stating.StatementOfOnHistoryStating.begin.Goals as goal

pub carry-requires-clause-is_of : goal.carry-requires-clause-is_of
carry-requires-clause-is_of c =
    let own = c.in-Ok.own in
    carried own.number own.number c.args.market.now c.from_market.new.market own.statement own.statement refl c.in-Ok.ensures.market refl c.in-Ok.ensures.is_of
