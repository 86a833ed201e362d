use Rattle.std.proofs.Common.{◌≡◌, ◌*◌, ◌^◌, ◌≤◌, ◌+ℤ◌, take}
use Rattle.std.specs.Prelude.{unsigned_abs}
use Rattle.std.specs.List.{sum_by}
use Rattle.weight_rows.specs.declared.entries.Entry.{Entry}
use Rattle.flow_orders.specs.Residuals.{residual_in}
use Rattle.rate_rounding.proofs.choice.lessens.Given as goal

abbrev pub invariant-loop-entry : goal.invariant-loop-entry
invariant-loop-entry l = record {
  before : l.before ≡ sum_by (λ (e : Entry). unsigned_abs (residual_in l.residuals e.asset)) (take l.entry-index l.entry-items);
  after : l.after ≡ sum_by (λ (e : Entry). unsigned_abs (residual_in l.residuals e.asset +ℤ e.weight)) (take l.entry-index l.entry-items);
  before_small : l.before ≤ l.entry-index * 2 ^ 53;
  after_small : l.after ≤ l.entry-index * 2 ^ 53;
}
