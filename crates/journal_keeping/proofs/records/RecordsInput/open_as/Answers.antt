use Rattle.market_history.specs.Histories.{Empty}
use Rattle.journal_keeping.proofs.Making.{after_source}
use Rattle.journal_keeping.proofs.records.RecordsInput.open_as.Goals as goal

pub returns-in-Ok-clause-opens : goal.returns-in-Ok-clause-opens
returns-in-Ok-clause-opens g c =
    after_source c.args.limit c.in-Ok.window (Empty c.args.version) (g.S.Source.rest c.args.source.now) (g.S.Source.rest c.open_source.new.source) c.in-Ok.ensures.following
