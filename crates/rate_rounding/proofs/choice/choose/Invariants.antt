use Rattle.std.proofs.Common.{◌≡◌, ◌≤◌, length}
use Rattle.std.specs.Prelude.{vec_len, vec_capacity}
use Rattle.rate_rounding.proofs.Choosing.{AreChosen}
use Rattle.rate_rounding.proofs.choice.choose.Given as goal

abbrev pub invariant-loop-place : goal.invariant-loop-place
invariant-loop-place l = record {
  chosen : AreChosen l.quoted.prices.items l.orders l.place l.rates.items l.residuals;
  pushed : vec_len l.rates ≡ l.place;
  room : length l.orders ≤ vec_capacity l.rates;
}
