use Rattle.std.proofs.Common.{Ok, ◌++◌, [], ◌∷◌, ℕ, sym, subst, IfSome}
use Rattle.journal_disk.specs.declared.fault.Step.{Step}
use Rattle.journal_disk.specs.Entries.{Holds}
use Rattle.journal_disk.specs.Stepping.{IsStep}
use Rattle.journal_disk.proofs.GoingOn.{looks_hold, looks_more, step_holds, step_ends}
use Rattle.disk_tests.proofs.keeping.read_kept.Goals as goal

pub pairs-init : goal.pairs-init
pairs-init g c =
    let start = g.D.Disk.state c.args.disk.now in
    let mid = g.D.Disk.state c.new.new.disk in
    let e = c.in_ok-ahead.ensures in
    record { looks = e.looks; piece = e.piece; holds = λ head pairs rest holds. (pairs, rest, looks_hold head pairs c.args.journal.now rest start mid holds e.looks) }

pub pairs-preserved : goal.pairs-preserved
pairs-preserved g c =
    let e = c.in_ok-next.ensures in
    let mid = g.D.Disk.state c.pairs.disk in
    let next = g.D.Disk.state c.next.new.disk in
    let taken = subst (λ (s : Step). IfSome mid.content (IsStep (Ok s) c.pairs.journal c.next.new.self c.next.new.pair.items)) c.in-Pair.is e.step in
    record {
      looks = looks_more (g.D.Disk.state c.args.disk.now) mid next c.pairs.invariant.looks e.looks;
      piece = e.piece;
      holds = λ head pairs rest holds.
          let was = c.pairs.invariant.holds head pairs rest holds in
          let now = step_holds head was.0 c.pairs.journal was.1 mid was.2 c.next.new.self c.next.new.pair.items taken in
          (was.0 ++ now.0 ∷ [], now.1, looks_hold head _ c.next.new.self now.1 mid next now.4 e.looks);
    }

pub returns-in-Closed-clause-ends : goal.returns-in-Closed-clause-ends
returns-in-Closed-clause-ends g c = λ head pairs rest holds.
    let was = c.pairs.invariant.holds head pairs rest holds in
    let e = c.in_ok-next.ensures in
    let mid = g.D.Disk.state c.pairs.disk in
    let next = g.D.Disk.state c.next.new.disk in
    let place = (e.stays (λ is. cc (is, c.in-Closed.is))).0 in
    let taken = subst (λ (s : Step). IfSome mid.content (IsStep (Ok s) c.pairs.journal c.next.new.self c.next.new.pair.items)) c.in-Closed.is e.step in
    let ends = step_ends head was.0 c.pairs.journal was.1 mid was.2 c.next.new.pair.items taken in
    (was.0, (ends.0, ends.1, ends.2, ends.3, subst (λ (n : ℕ). Holds head was.0 n (ends.0 ∷ ends.2) next) (sym place) (looks_hold head was.0 c.pairs.journal (ends.0 ∷ ends.2) mid next ends.4 e.looks)))
