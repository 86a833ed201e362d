use Rattle.journal_keeping.proofs.Making.{takes_start}
use Rattle.journal_keeping.proofs.records.RecordsInput.open_first.Goals as goal

pub returns-in-Ok-clause-opens : goal.returns-in-Ok-clause-opens
returns-in-Ok-clause-opens g c =
    takes_start c.args.limit c.in-Ok.field-0.market c.in-Ok.field-0.stored.items c.in-Ok.field-0.window (g.S.Source.rest c.args.source.now) (g.S.Source.rest c.open_start.new.source) c.in-Ok.ensures.opens
