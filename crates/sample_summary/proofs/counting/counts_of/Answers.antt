use Rattle.std.proofs.Common.{refl}
use Rattle.wire_records.specs.Commands.{Batch}
use Rattle.flow_orders.specs.Outcomes.{Cleared}
use Rattle.sample_summary.proofs.Counted.{counted_as}
use Rattle.sample_summary.proofs.counting.counts_of.Goals as goal

pub returns-in-Some-Cleared : goal.returns-in-Some-Cleared
returns-in-Some-Cleared c = λ answer encodes.
    let seen = c.in-Some-Cleared.cleared in
    let read = rw (c.answered.ensures, c.in-Some-Cleared.field-0-is) at c.in-Some-Cleared.ensures in
    counted_as c.args.pair.now.1 (Batch seen.batch (Cleared seen.clearing)) answer (record { cleared = 1; skipped = 0; units = c.units_of.result }) read encodes (record { cleared = refl; skipped = refl; units = c.units_of.ensures })
