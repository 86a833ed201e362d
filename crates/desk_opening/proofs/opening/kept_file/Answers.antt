use Rattle.desk_opening.proofs.FirstFiles.{file_seen, file_sound, first_stops, file_stops}
use Rattle.desk_opening.proofs.opening.kept_file.Goals as goal

pub returns-in-Err-first_market-clause-refused : goal.returns-in-Err-first_market-clause-refused
returns-in-Err-first_market-clause-refused g c =
    file_stops c.args.version (g.D.Disk.state c.args.disk.now) (g.D.Disk.state c.new.new.disk) c.in-Ok.ensures.looks c.requires.found c.in-Err-first_market.fault c.in-Err-first_market.ensures.stops
    c.in-Err-first_market.ensures.refused

pub returns-in-Ok-see_first-clause-found : goal.returns-in-Ok-see_first-clause-found
returns-in-Ok-see_first-clause-found g c = (
  c.in-Ok-see_first.ensures.piece,
  c.in-Ok-first_market.ensures.near.1,
  file_seen c.args.version (g.D.Disk.state c.args.disk.now) (g.D.Disk.state c.new.new.disk) (g.D.Disk.state c.first_market.new.disk) c.in-Ok.ensures.looks c.in-Ok-first_market.ensures.looks c.requires.found c.in-Ok-first_market.field-0 c.first_market.new.journal
      c.in-Ok-first_market.ensures.begins (g.D.Disk.state c.see_first.new.disk) c.in-Ok-see_first.ensures.looks,
)

pub returns-in-Ok-see_first-clause-sound : goal.returns-in-Ok-see_first-clause-sound
returns-in-Ok-see_first-clause-sound g c =
    file_sound c.args.version (g.D.Disk.state c.args.disk.now) (g.D.Disk.state c.new.new.disk) (g.D.Disk.state c.first_market.new.disk) c.in-Ok.ensures.looks c.in-Ok-first_market.ensures.looks c.requires.found c.in-Ok-first_market.field-0 c.first_market.new.journal
    c.in-Ok-first_market.ensures.begins c.in-Ok-see_first.ensures.whole

pub returns-in-Err-see_first-clause-refused : goal.returns-in-Err-see_first-clause-refused
returns-in-Err-see_first-clause-refused g c =
    first_stops c.args.version (g.D.Disk.state c.args.disk.now) (g.D.Disk.state c.new.new.disk) (g.D.Disk.state c.first_market.new.disk) c.in-Ok.ensures.looks c.in-Ok-first_market.ensures.looks c.requires.found c.in-Ok-first_market.field-0 c.first_market.new.journal
    c.in-Ok-first_market.ensures.begins c.in-Err-see_first.fault c.in-Err-see_first.ensures.refused
