use Rattle.std.proofs.Common.{length, pos}
use Rattle.weight_rows.specs.Rows.{price_of}
use Rattle.joint_prices.specs.Numbers.{scaled}
use Rattle.joint_rounds.proofs.RoundFacts.{IsBegun}
use Rattle.joint_rounds.proofs.rounds.begin_flows.Given as goal

abbrev pub invariant-loop-a : goal.invariant-loop-a
invariant-loop-a l = IsBegun (λ a. scaled (price_of l.flat a) (pos 28)) (length l.flat) l.a l.sums
