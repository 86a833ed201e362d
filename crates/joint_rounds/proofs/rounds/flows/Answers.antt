use Rattle.std.proofs.Common.{◌∙◌, ◌-ℤ◌, pos, ap, arith}
use Rattle.std.specs.Int.{w32}
use Rattle.std.proofs.lemmas.Int.{ints, to_z-of_z, fits_signed_from_abs}
use Rattle.joint_rounds.proofs.RoundFacts.{flows_are}
use Rattle.joint_rounds.proofs.rounds.flows.Goals as goal

pub returns : goal.returns
returns c =
    let t = c.flatten-top.result in
    let f = to_z-of_z w32 t (record { sfits = c.flatten-top.type_inv }) in
    let e = to_z-of_z w32 (t -ℤ pos 26) (fits_signed_from_abs w32 _ (omega (arith, ints, c.flatten-top.ensures.small))) in
    let is = rw (f, e) at c.cut_all.ensures in
    let count = c.flatten-top.auto.into ∙ c.requires.flats in
    record {
      value = flows_are c.args.orders.now c.args.states.now c.args.direction.now c.flatten-top.new.into c.begin_flows.new.sums c.gather_flows.new.sums _ (t -ℤ pos 26) c.cut_all.new.into
          c.flatten-top.ensures.value (ap (λ x. x -ℤ pos 26) c.flatten-top.ensures.top) c.begin_flows.ensures.sums c.gather_flows.ensures.sums
          (c.gather_flows.ensures.sums.count ∙ c.begin_flows.ensures.sums.count ∙ count) count is;
      flat = c.flatten-top.ensures.flat;
    }
