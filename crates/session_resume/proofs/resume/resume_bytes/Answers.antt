use Rattle.std.proofs.Common.{drop, IsTrue}
use Rattle.session_resume.specs.Firsts.{Whole}
use Rattle.session_resume.specs.Resuming.{FirstComesTo, Resumes, ResumesInto, ResumesShort}
use Rattle.session_resume.specs.Private.{IntoAfter, ShortAfter}
use Rattle.session_resume.proofs.After.{ends_map, into_whole, short_whole, illegal_ends}
use Rattle.session_resume.proofs.resume.resume_bytes.Goals as goal

pub returns-in-Ok-clause-ends : goal.returns-in-Ok-clause-ends
returns-in-Ok-clause-ends g c =
    let bytes = c.args.bytes.now in
    let part = c.in-Ok.part in
    let rest = drop part.place bytes in
    let first = Whole part.origin part.market part.place rest in
    let stands = c.in-Ok.ensures.first in
    ends_map (FirstComesTo (IsTrue c.args.more) first) (Resumes (IsTrue c.args.more) bytes) (IntoAfter part.market rest) (ResumesInto bytes) (ShortAfter part.market rest) (ResumesShort bytes)
    (λ ended text comes. record { first = first; stands = stands; comes = comes }) (into_whole bytes part.origin part.market part.place rest stands) (short_whole bytes part.origin part.market part.place rest stands)
    c.go_on.result (g.K.Sink.held c.args.out.now) (g.K.Sink.held c.go_on.new.out) c.go_on.ensures.ends

pub returns-in-Err-Illegal-clause-ends : goal.returns-in-Err-Illegal-clause-ends
returns-in-Err-Illegal-clause-ends g c =
    let stands = rw c.in-Err-Illegal.field-0-is at c.in-Err-Illegal.ensures.fault in
    rw c.in-Err-Illegal.field-0-is (illegal_ends (IsTrue c.args.more) c.args.bytes.now c.in-Err-Illegal.number stands (g.K.Sink.held c.args.out.now))
