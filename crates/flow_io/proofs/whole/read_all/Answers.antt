use Rattle.std.proofs.Common.{arith}
use Rattle.flow_io.proofs.Reading.{Takes-more, drop_limit_and_one}
use Rattle.flow_io.proofs.whole.read_all.Goals as goal

pub returns-clause-taken : goal.returns-clause-taken
returns-clause-taken g c =
    let full = c.in_ok-bytes.ensures.full c.if-ended.false in
    drop_limit_and_one (g.S.Source.rest c.args.source.now) (g.S.Source.rest c.read_up_to.new.source) (g.S.Source.rest c.has_more.new.source) c.in_ok-bytes.bytes.items c.args.limit c.in_ok-bytes.ensures.taken (omega (arith, full)) c.in_ok-more.ensures.taken

pub returns-clause-prefix : goal.returns-clause-prefix
returns-clause-prefix g c =
    let more = c.in_ok-more.ensures.prefix in
    (_, Takes-more (g.S.Source.rest c.args.source.now) (g.S.Source.rest c.read_up_to.new.source) (g.S.Source.rest c.has_more.new.source) _ _ c.in_ok-bytes.ensures.taken more.2)
