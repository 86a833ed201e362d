use Rattle.std.proofs.Common.{◌≡◌, ◌*◌, ◌-◌, ◌^◌, ◌≤◌, take}
use Rattle.std.specs.List.{sum_by}
use Rattle.sample_summary.proofs.counting.units_of.Given as goal

abbrev pub invariant-loop-place : goal.invariant-loop-place
invariant-loop-place l = record {
  value : l.units ≡ sum_by (λ f. f.rate) (take l.place l.cleared.clearing.fills);
  bound : l.units ≤ l.place * (2 ^ 32 - 1);
}
