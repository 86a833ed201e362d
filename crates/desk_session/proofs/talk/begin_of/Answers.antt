use Rattle.std.proofs.Common.{sym}
use Rattle.desk_session.proofs.Parts.{begins_after}
use Rattle.desk_session.proofs.talk.begin_of.Goals as goal

pub returns : goal.returns
returns c = sym (begins_after c.args.ends.now c.args.place 0 c.if-place-eq0.false)
