use Rattle.flow_io.proofs.Filling.{stayed}
use Rattle.flow_io.proofs.window.Window.read_more.Goals as goal

pub returns-in_err-count-clause-fills : goal.returns-in_err-count-clause-fills
returns-in_err-count-clause-fills g c =
    let failed = c.in_err-count.ensures in
    stayed c.args.self.now _ _ _ (g.S.Source.rest c.args.source.now) (g.S.Source.rest c.read.new.source) c.self.view_is failed.failed.0 failed.room failed.failed.1
