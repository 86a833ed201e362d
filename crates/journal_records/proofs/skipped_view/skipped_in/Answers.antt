use Rattle.std.proofs.Common.{◌++◌, [], length, FitsSigned, refl, ap, sym, ◌∙◌, rules}
use Rattle.std.specs.Int.{w128}
use Rattle.std.proofs.lemmas.Int.{to_z-of_z}
use Rattle.std.proofs.lemmas.Option.{none-some, same_Some}
use Rattle.std.proofs.lemmas.List.{append-nil}
use Rattle.std.proofs.lemmas.Bool.{false≢true}
use Rattle.wire_fields.specs.Numbers.{IsUnsigned}
use Rattle.wire_fields.proofs.Encoding.{IsSigned-from_fits}
use Rattle.journal_records.proofs.Reading.{from_steps, from_end, from_start, skipped_apart, skipped_read}
use Rattle.journal_records.proofs.skipped_view.skipped_in.Goals as goal

pub returns-in_err-batch-clause-found : goal.returns-in_err-batch-clause-found
returns-in_err-batch-clause-found c = rw c.from_residual.ensures tt

pub returns-in_err-batch-clause-none : goal.returns-in_err-batch-clause-none
returns-in_err-batch-clause-none c =
    rw c.from_residual.ensures (λ b s.
    let batch = c.in_err-batch.ensures.again b.batch (from_start b.skipping) s.batch (c.new-cursor.ensures ∙ skipped_apart c.args.body.now b s) in
    absurd (none-some b.batch batch.0))

pub returns-in_err-start_dual-clause-found : goal.returns-in_err-start_dual-clause-found
returns-in_err-start_dual-clause-found c = rw c.from_residual-in_err-start_dual.ensures tt

pub returns-in_err-start_dual-clause-none : goal.returns-in_err-start_dual-clause-none
returns-in_err-start_dual-clause-none c =
    rw c.from_residual-in_err-start_dual.ensures (λ b s.
    let batch = c.in_ok-batch.ensures.again b.batch (from_start b.skipping) s.batch (c.new-cursor.ensures ∙ skipped_apart c.args.body.now b s) in
    let start = c.in_err-start_dual.ensures.again b.skipping.start_dual (from_end b.skipping) s.fits.start_dual batch.1 in
    absurd (none-some b.skipping.start_dual start.0))

pub returns-in_err-end_dual-clause-found : goal.returns-in_err-end_dual-clause-found
returns-in_err-end_dual-clause-found c = rw c.from_residual-in_err-end_dual.ensures tt

pub returns-in_err-end_dual-clause-none : goal.returns-in_err-end_dual-clause-none
returns-in_err-end_dual-clause-none c =
    rw c.from_residual-in_err-end_dual.ensures (λ b s.
    let batch = c.in_ok-batch.ensures.again b.batch (from_start b.skipping) s.batch (c.new-cursor.ensures ∙ skipped_apart c.args.body.now b s) in
    let start = c.in_ok-start_dual.ensures.again b.skipping.start_dual (from_end b.skipping) s.fits.start_dual batch.1 in
    let end = c.in_err-end_dual.ensures.again b.skipping.end_dual (from_steps b.skipping) s.fits.end_dual start.1 in
    absurd (none-some b.skipping.end_dual end.0))

pub returns-in_err-steps-clause-found : goal.returns-in_err-steps-clause-found
returns-in_err-steps-clause-found c = rw c.from_residual-in_err-steps.ensures tt

pub returns-in_err-steps-clause-none : goal.returns-in_err-steps-clause-none
returns-in_err-steps-clause-none c =
    rw c.from_residual-in_err-steps.ensures (λ b s.
    let batch = c.in_ok-batch.ensures.again b.batch (from_start b.skipping) s.batch (c.new-cursor.ensures ∙ skipped_apart c.args.body.now b s) in
    let start = c.in_ok-start_dual.ensures.again b.skipping.start_dual (from_end b.skipping) s.fits.start_dual batch.1 in
    let end = c.in_ok-end_dual.ensures.again b.skipping.end_dual (from_steps b.skipping) s.fits.end_dual start.1 in
    let steps = c.in_err-steps.ensures.again (length b.skipping.trace) b.skipping.trace s.fits.steps end.1 in
    absurd (none-some (length b.skipping.trace) steps.0))

pub returns-in_err-take-clause-found : goal.returns-in_err-take-clause-found
returns-in_err-take-clause-found c = rw c.from_residual-in_err-take.ensures tt

pub returns-in_err-take-clause-none : goal.returns-in_err-take-clause-none
returns-in_err-take-clause-none c =
    rw c.from_residual-in_err-take.ensures (λ b s.
    let batch = c.in_ok-batch.ensures.again b.batch (from_start b.skipping) s.batch (c.new-cursor.ensures ∙ skipped_apart c.args.body.now b s) in
    let start = c.in_ok-start_dual.ensures.again b.skipping.start_dual (from_end b.skipping) s.fits.start_dual batch.1 in
    let end = c.in_ok-end_dual.ensures.again b.skipping.end_dual (from_steps b.skipping) s.fits.end_dual start.1 in
    let steps = c.in_ok-steps.ensures.again (length b.skipping.trace) b.skipping.trace s.fits.steps end.1 in
    let trace = c.in_err-take.ensures.again b.skipping.trace [] (sym (same_Some _ _ steps.0)) (steps.1 ∙ sym (append-nil b.skipping.trace)) in
    absurd trace.0)

pub returns-then-not-is_empty-clause-found : goal.returns-then-not-is_empty-clause-found
returns-then-not-is_empty-clause-found c = tt

pub returns-then-not-is_empty-clause-none : goal.returns-then-not-is_empty-clause-none
returns-then-not-is_empty-clause-none c = λ b s.
    let batch = c.in_ok-batch.ensures.again b.batch (from_start b.skipping) s.batch (c.new-cursor.ensures ∙ skipped_apart c.args.body.now b s) in
    let start = c.in_ok-start_dual.ensures.again b.skipping.start_dual (from_end b.skipping) s.fits.start_dual batch.1 in
    let end = c.in_ok-end_dual.ensures.again b.skipping.end_dual (from_steps b.skipping) s.fits.end_dual start.1 in
    let steps = c.in_ok-steps.ensures.again (length b.skipping.trace) b.skipping.trace s.fits.steps end.1 in
    let trace = c.in_ok-take.ensures.again b.skipping.trace [] (sym (same_Some _ _ steps.0)) (steps.1 ∙ sym (append-nil b.skipping.trace)) in
    absurd (false≢true (sym c.if-not-is_empty.true ∙ c.is_empty.ensures.1 trace.1))

pub returns-clause-found : goal.returns-clause-found
returns-clause-found c =
    let start_fits : FitsSigned w128 c.in_ok-start_dual.start_dual = search rules in
    let end_fits : FitsSigned w128 c.in_ok-end_dual.end_dual = search rules in
    let batch_fits : IsUnsigned 4 c.in_ok-batch.batch = search rules in
    let steps_fits : IsUnsigned 4 c.in_ok-steps.steps = search rules in
    let trace = c.as_bytes-trace in
    rw (to_z-of_z w128 c.in_ok-start_dual.start_dual start_fits, to_z-of_z w128 c.in_ok-end_dual.end_dual end_fits)
    (skipped_read c.args.body.now c.in_ok-batch.batch c.in_ok-steps.steps c.in_ok-start_dual.start_dual c.in_ok-end_dual.end_dual trace.result.now
    c.take_u32.new.self c.take_i128.new.self c.take_i128-2.new.self c.take_u32-2.new.self c.take.new.self
    batch_fits steps_fits (IsSigned-from_fits 16 w128 refl c.in_ok-start_dual.start_dual start_fits) (IsSigned-from_fits 16 w128 refl c.in_ok-end_dual.end_dual end_fits) trace.ensures.bytes
    (ap length trace.ensures.value ∙ c.in_ok-take.ensures.size)
    (sym c.new-cursor.ensures ∙ c.in_ok-batch.ensures.found) c.in_ok-start_dual.ensures.found c.in_ok-end_dual.ensures.found c.in_ok-steps.ensures.found
    (c.in_ok-take.ensures.found ∙ ap (λ xs. xs ++ c.take.new.self) (sym trace.ensures.value)) (c.is_empty.ensures.0 c.if-not-is_empty.false))

pub returns-clause-none : goal.returns-clause-none
returns-clause-none c = tt
