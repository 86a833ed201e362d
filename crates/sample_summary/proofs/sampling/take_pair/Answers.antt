use Rattle.std.proofs.Common.{drop, sym, subst, arith}
use Rattle.wire_records.specs.Records.{Record}
use Rattle.batch_audit.specs.Legal.{IsLegalPair}
use Rattle.sample_summary.specs.Private.{IsWritten, CountsAnswer}
use Rattle.sample_summary.proofs.Counted.{has_room}
use Rattle.sample_summary.proofs.Written.{legal_of, framed_as, not_none, not_broken, made_of, encodes_of}
use Rattle.sample_summary.proofs.sampling.take_pair.Goals as goal

pub audit_legal-requires-clause-legal : goal.audit_legal-requires-clause-legal
audit_legal-requires-clause-legal c =
    let w = c.requires.written in
    let is = framed_as c.args.audit.now c.args.bytes.now w c.in-Whole.pair (drop c.in-Whole.field-1 c.args.bytes.now) c.in-Whole.ensures.0 c.in-Whole.ensures.2 in
    (w.new, subst (λ (p : Record × Record). IsLegalPair c.args.audit.now p w.new) (sym is) (legal_of c.args.audit.now c.args.bytes.now w))

-- the counts of the entry that the bytes encode
counted : (c : goal.After-counts_of) (w : IsWritten c.args.audit.now c.args.bytes.now) → CountsAnswer w.pair.answer c.counts_of.result
counted c w =
    let is = framed_as c.args.audit.now c.args.bytes.now w c.in-Whole.pair (drop c.in-Whole.field-1 c.args.bytes.now) c.in-Whole.ensures.0 c.in-Whole.ensures.2 in
    c.counts_of.ensures w.pair.answer (encodes_of c.args.audit.now c.args.bytes.now w c.in-Whole.pair is)

pub add-requires-clause-cleared : goal.add-requires-clause-cleared
unfolding counted
add-requires-clause-cleared c = let w = c.requires.written in (has_room c.args.counts.now c.counts_of.result w.pair c.requires.room w.fits (counted c w)).0

pub add-requires-clause-skipped : goal.add-requires-clause-skipped
unfolding counted
add-requires-clause-skipped c = let w = c.requires.written in (has_room c.args.counts.now c.counts_of.result w.pair c.requires.room w.fits (counted c w)).1

pub add-requires-clause-units : goal.add-requires-clause-units
unfolding counted
add-requires-clause-units c = let w = c.requires.written in (has_room c.args.counts.now c.counts_of.result w.pair c.requires.room w.fits (counted c w)).2

pub unreachable-requires : goal.unreachable-requires
unreachable-requires c = not_none c.args.audit.now c.args.bytes.now c.requires.written c.in-End.ensures

pub unreachable-requires-in-Broken : goal.unreachable-requires-in-Broken
unreachable-requires-in-Broken c = not_broken c.args.audit.now c.args.bytes.now c.requires.written c.in-Broken.ensures.1

pub returns : goal.returns
returns c = record {
  taken = λ w.
      let is = framed_as c.args.audit.now c.args.bytes.now w c.in-Whole.pair (drop c.in-Whole.field-1 c.args.bytes.now) c.in-Whole.ensures.0 c.in-Whole.ensures.2 in
      let one = c.counts_of.ensures w.pair.answer (encodes_of c.args.audit.now c.args.bytes.now w c.in-Whole.pair is) in (
        made_of c.args.audit.now c.args.bytes.now w c.in-Whole.pair c.audit_legal.new.audit is c.in_ok-audit_legal-in-Whole.ensures.made,
        record {
          cleared = omega (arith, c.add.ensures.cleared, one.cleared);
          skipped = omega (arith, c.add.ensures.skipped, one.skipped);
          units = omega (arith, c.add.ensures.units, one.units);
        },
      );
}
