use Rattle.std.proofs.Common.{◌+◌, ◌<◌, ◌++◌, length, FitsSigned, refl, rules, arith, subst}
use Rattle.std.specs.Int.{w128}
use Rattle.std.proofs.lemmas.Int.{to_z-of_z}
use Rattle.std.proofs.lemmas.List.Elements.{All-drop}
use Rattle.std.proofs.Math.Seq.{drop-append_seam}
use Rattle.wire_records.specs.Records.{AreBytes}
use Rattle.wire_fields.proofs.Encoding.{IsSigned-from_fits}
use Rattle.batch_outcome.specs.Published.{skipping_of}
use Rattle.journal_records.proofs.FieldForms.{skipping_fits}
use Rattle.journal_records.proofs.Encoded.{put_skip_together}
use Rattle.journal_records.proofs.skipped.put_skipped.Goals as goal

pub returns-clause-written : goal.returns-clause-written
returns-clause-written c =
    let start : FitsSigned w128 c.args.skipped.now.start_dual = search rules in
    let end : FitsSigned w128 c.args.skipped.now.end_dual = search rules in
    rw (c.put_bytes.ensures.written, c.put_u32-2.ensures.written, c.put_i128-2.ensures.written, c.put_i128.ensures.written, c.put_u32.ensures.written, c.put_head.ensures.written)
    (rw (to_z-of_z w128 c.args.skipped.now.start_dual start, to_z-of_z w128 c.args.skipped.now.end_dual end, c.as_slice-trace.ensures)
    (put_skip_together c.args.out.now.items c.args.batch (skipping_of c.args.skipped.now) (40 + length c.args.skipped.now.trace) (length c.args.skipped.now.trace) refl refl))

pub returns-clause-fits : goal.returns-clause-fits
returns-clause-fits c =
    let start : FitsSigned w128 c.args.skipped.now.start_dual = search rules in
    let end : FitsSigned w128 c.args.skipped.now.end_dual = search rules in
    skipping_fits c.args.batch (skipping_of c.args.skipped.now) (omega (arith, c.ranges.batch))
    (record {
      start_dual = IsSigned-from_fits 16 w128 refl c.args.skipped.now.start_dual start;
      end_dual = IsSigned-from_fits 16 w128 refl c.args.skipped.now.end_dual end;
      steps = omega (arith, c.requires.few);
      trace = subst AreBytes (drop-append_seam c.put_u32-2.new.out.items c.args.skipped.now.trace)
          (All-drop (λ byte. byte < 256) (length c.put_u32-2.new.out.items) (c.put_u32-2.new.out.items ++ c.args.skipped.now.trace)
          (rw (← c.as_slice-trace.ensures, ← c.put_bytes.ensures.written) c.type_inv.out));
    })
