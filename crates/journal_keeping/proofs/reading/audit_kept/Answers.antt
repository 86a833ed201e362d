use Rattle.std.proofs.Common.{Ok, Err, ◌≡◌, ◌+◌, ℕ, List, [], Option, map, refl, sym, ap, subst, ◌∙◌, arith, IfSome}
use Rattle.std.proofs.lemmas.Result.{err_from_is_err_and}
use Rattle.journal_records.specs.Formats.{records_of}
use Rattle.journal_disk.specs.Pairs.{RecordPair}
use Rattle.journal_disk.specs.Entries.{Holds}
use Rattle.journal_disk.specs.Ahead.{IsPiece}
use Rattle.journal_disk.specs.Stepping.{HasEntryAt, StatesAt, Finds}
use Rattle.journal_disk.proofs.GoingOn.{looks_none, looks_more, looks_hold, entry_holds}
use Rattle.journal_keeping.specs.Starts.{head_of}
use Rattle.journal_keeping.specs.Auditing.{StopsAs}
use Rattle.journal_keeping.specs.declared.fault.OpenFault.{OpenFault}
use Rattle.journal_keeping.proofs.Auditing.{by_both, none_read, one_read, stops_finding, stops_judged}
use Rattle.journal_keeping.proofs.reading.audit_kept.Goals as goal

pub pairs-init : goal.pairs-init
pairs-init g c =
    let start = g.D.Disk.state c.args.disk.now in
    record {
      looks = looks_none start (g.met.D.Disk.is_disk c.args.disk.now);
      reads = λ begin rest starts new holds. ([], rest, none_read begin c.args.audit.now starts new, refl, holds);
      piece = c.requires.piece;
      next = c.requires.next;
      small = omega arith;
      quiet = refl;
    }

pub pairs-preserved : goal.pairs-preserved
pairs-preserved g c =
    let i = c.pairs.invariant in
    let e = c.in-Ok-Some.ensures in
    let t = c.in-Ok.ensures in
    let judged = c.in_ok-judge-in-Ok.ensures in
    let mid = g.D.Disk.state c.pairs.disk in
    let next = g.D.Disk.state c.find.new.disk in
    let pair = c.in-Ok.pair in
    let states = subst (λ (o : Option ℕ). IfSome mid.content (Finds (Ok o) c.pairs.journal)) c.in-Ok-Some.field-0-is e.found in
    let stands = by_both mid.content next.content (StatesAt c.pairs.journal c.in-Ok-Some.count) (IsPiece c.find.new.ahead) (λ l. (rest : List ℕ) × HasEntryAt c.pairs.journal pair rest l) e.looks.content states e.piece t.taken in
    let more : c.saturating_add-number.result ≡ c.pairs.number + 1 = omega (arith, c.saturating_add-number.ensures, i.small, t.near, t.moves) in
    record {
      looks = looks_more (g.D.Disk.state c.args.disk.now) mid next i.looks e.looks;
      reads = λ begin rest starts new holds.
          let was = i.reads begin rest starts new holds in
          let now = entry_holds (head_of begin) (map records_of was.0) c.pairs.journal was.1 mid was.4 pair c.take.new.self stands (omega (arith, t.moves, t.encoded.2)) in
          let one = one_read begin was.0 c.pairs.audit c.judge.new.audit pair was.2 t.encoded.0 judged.legal in
          (one.0, now.0, one.1, omega (arith, more, was.3, one.2), looks_hold (head_of begin) (map records_of one.0) c.take.new.self now.0 mid next (subst (λ (l : List RecordPair). Holds (head_of begin) l c.take.new.self now.0 mid) one.3 now.1) e.looks);
      piece = e.piece;
      next = omega (arith, judged.next, i.next, t.moves);
      small = omega (arith, more, i.small, t.moves);
      quiet = e.cause.quiet (λ is. cc is) ∙ i.quiet;
    }

pub returns-in-Err-clause-stops : goal.returns-in-Err-clause-stops
returns-in-Err-clause-stops g c = λ begin rest bytes starts new holds told.
    let i = c.pairs.invariant in
    let was = i.reads begin rest starts new holds in
    subst (λ (f : OpenFault). StopsAs begin f bytes) (sym c.from-in-Err.ensures)
    (stops_finding begin was.0 c.pairs.audit c.pairs.journal was.1 bytes (g.D.Disk.state c.pairs.disk) was.2 was.4 (i.looks.content ∙ told) c.in-Err.fault c.in-Err.ensures.found)

pub returns-in_err-judge-in-Ok-clause-stops : goal.returns-in_err-judge-in-Ok-clause-stops
returns-in_err-judge-in-Ok-clause-stops g c =
    let i = c.pairs.invariant in
    let e = c.in-Ok-Some.ensures in
    let t = c.in-Ok.ensures in
    let judged = c.in_err-judge-in-Ok.ensures in
    let mid = g.D.Disk.state c.pairs.disk in
    let next = g.D.Disk.state c.find.new.disk in
    let pair = c.in-Ok.pair in
    let states = subst (λ (o : Option ℕ). IfSome mid.content (Finds (Ok o) c.pairs.journal)) c.in-Ok-Some.field-0-is e.found in
    let stands = by_both mid.content next.content (StatesAt c.pairs.journal c.in-Ok-Some.count) (IsPiece c.find.new.ahead) (λ l. (rest : List ℕ) × HasEntryAt c.pairs.journal pair rest l) e.looks.content states e.piece t.taken in
    let more : c.saturating_add-number.result ≡ c.pairs.number + 1 = omega (arith, c.saturating_add-number.ensures, i.small, t.near, t.moves) in
    let p = err_from_is_err_and c.from_residual.result c.from_residual.ensures.1 in
    rw (p.1, p.2) (λ begin rest bytes starts new holds told.
    let was = i.reads begin rest starts new holds in
    stops_judged begin was.0 c.pairs.audit c.pairs.journal was.1 bytes mid was.2 was.4 (i.looks.content ∙ told) c.in_err-judge-in-Ok.field-0.0 c.saturating_add-number.result pair (omega (arith, more, was.3)) stands judged.refused (λ is. judged.illegal (ap Err is)))
