use Rattle.std.specs.Prelude.{unsigned_abs}
use Rattle.batch_certificate.specs.Weighing.{square}
use Rattle.batch_certificate.proofs.Weighing.{AreGiven}
use Rattle.batch_certificate.proofs.weights.add_row_weights.Given as goal

abbrev pub invariant-loop-entry : goal.invariant-loop-entry
invariant-loop-entry l = record {
  spreads : AreGiven unsigned_abs l.entry-items l.initial.spreads l.entry-index l.spreads;
  squares : AreGiven square l.entry-items l.initial.squares l.entry-index l.squares;
}
