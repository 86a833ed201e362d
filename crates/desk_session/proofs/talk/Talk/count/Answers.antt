use Rattle.std.proofs.Common.{length, ap, arith}
use Rattle.desk_session.specs.Talks.{Talk}
use Rattle.desk_session.proofs.Parts.{parts_count}
use Rattle.desk_session.proofs.talk.Talk.count.Goals as goal

pub returns : goal.returns
returns c = omega (arith, c.len.ensures, c.self.inside.ends.ok.0, parts_count 0 c.self.inside.ends.items c.self.inside.text.items, ap (λ (t : Talk). length t.texts) c.self.view_is)
