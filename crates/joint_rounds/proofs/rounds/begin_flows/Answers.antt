use Rattle.std.proofs.Common.{length, pos, arith}
use Rattle.weight_rows.specs.Rows.{price_of}
use Rattle.joint_prices.specs.Numbers.{scaled}
use Rattle.joint_rounds.proofs.RoundFacts.{all_begun, flows_begun_small}
use Rattle.joint_rounds.proofs.rounds.begin_flows.Goals as goal

pub returns-clause-small : goal.returns-clause-small
returns-clause-small c =
    flows_begun_small c.args.flat.now c.loop-a.sums c.requires.flat
    (all_begun (λ a. scaled (price_of c.args.flat.now a) (pos 28)) (length c.args.flat.now) c.loop-a.a c.loop-a.sums (omega (arith, c.loop-a-test.false, c.requires.count)) c.loop-a.invariant)
