use Rattle.flow_io.specs.declared.window.InputEnd.TheVariants.{Source, Limit}
use Rattle.market_history.proofs.Starting.{found_few, taken_few}
use Rattle.market_history.proofs.start.read_start.Goals as goal

pub returns-in-Ok-Ended-clause-finds : goal.returns-in-Ok-Ended-clause-finds
returns-in-Ok-Ended-clause-finds g c =
    let w = c.args.window.now in
    let filled = c.in-Ok-Ended.ensures in
    let ended = filled.ended.0 c.in-Ok-Ended.field-0-is in
    found_few (g.S.Source.rest c.args.source.now) (g.S.Source.rest c.fill.new.source) w.room w.limit c.fill.new.self (rw c.requires.new at filled.fills) filled.within ended.0 Source ended.1 (λ e. filled.all ended.1)

pub returns-in-Ok-Limited-clause-finds : goal.returns-in-Ok-Limited-clause-finds
returns-in-Ok-Limited-clause-finds g c =
    let w = c.args.window.now in
    let filled = c.in-Ok-Limited.ensures in
    let ended = filled.limited.0 c.in-Ok-Limited.field-0-is in
    found_few (g.S.Source.rest c.args.source.now) (g.S.Source.rest c.fill.new.source) w.room w.limit c.fill.new.self (rw c.requires.new at filled.fills) filled.within ended.0 Limit ended.1 (λ e. absurd cc)

pub returns-in-Err-clause-finds : goal.returns-in-Err-clause-finds
returns-in-Err-clause-finds g c =
    let w = c.args.window.now in
    let filled = c.in-Err.ensures in
    taken_few (g.S.Source.rest c.args.source.now) (g.S.Source.rest c.fill.new.source) w.room w.limit c.fill.new.self (rw c.requires.new at filled.fills) filled.within filled.failed.1 filled.failed.0
