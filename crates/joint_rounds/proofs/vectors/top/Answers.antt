use Rattle.std.proofs.Common.{to_z, ◌≡◌, ◌≤◌, ◌^◌, ◌≤ℤ◌, ◌∙◌, take, ap, sym, subst, arith}
use Rattle.std.specs.Prelude.{All, unsigned_abs}
use Rattle.std.specs.Int.{int_max, w32}
use Rattle.std.proofs.lemmas.Int.{ints, clamps, to_z-of_z}
use Rattle.std.proofs.lemmas.List.{take_all}
use Rattle.std.proofs.lemmas.List.Elements.{All-more, All-weaker}
use Rattle.joint_prices.specs.Numbers.{Num}
use Rattle.joint_rounds.proofs.VectorFacts.{top_begins, top_more, top_ends}
use Rattle.joint_rounds.proofs.vectors.top.Goals as goal

pub loop-a-init : goal.loop-a-init
loop-a-init c =
    let e = to_z-of_z w32 c.e-top.result (record { sfits = c.e-top.type_inv }) in
    let least = c.e-top.ensures.value ∙ ap (λ (x : Num). x.e) c.zero.ensures in
    rw (e, least) (top_begins c.args.ds.now, λ k d inside. absurd (omega (arith, inside)), omega arith)

pub loop-a-preserved : goal.loop-a-preserved
loop-a-preserved c =
    let inv = c.loop-a.invariant in
    let d = c.index-ds-a.result in
    let t = to_z w32 c.loop-a.top-bits in
    let m = to_z-of_z w32 c.max-top.result (record { sfits = c.max-top.type_inv }) in
    let e = to_z-of_z w32 c.e.result (record { sfits = c.e.type_inv }) in
    let value : c.max-top.result ≡ int_max t d.e = rw (e, c.e.ensures.value) at c.max-top.ensures.value in
    let small : unsigned_abs d.e ≤ 2 ^ 20 = rw (← c.e.ensures.value) c.e.ensures.small in
    rw (m, value) (
      inv.0 ∙ top_more c.args.ds.now c.loop-a.a t d c.loop-a-test.true c.index-ds-a.is,
      All-more (λ (x : Num). x.e ≤ℤ int_max t d.e) c.args.ds.now c.loop-a.a d c.loop-a-test.true
          (All-weaker (λ (x : Num). x.e ≤ℤ t) (λ (x : Num). x.e ≤ℤ int_max t d.e) (λ x below. omega (arith, ints, clamps, below)) (take c.loop-a.a c.args.ds.now) inv.1)
          (rw (← c.index-ds-a.is) (omega (arith, ints, clamps))),
      omega (arith, ints, clamps, small, inv.2),
    )

pub returns : goal.returns
returns c =
    let inv = c.loop-a.invariant in
    let t = to_z w32 c.loop-a.top-bits in
    record {
      value = sym (inv.0 ∙ top_ends c.args.ds.now c.loop-a.a t c.loop-a-test.false (omega (arith, ints, inv.2)));
      each = subst (All (λ (x : Num). x.e ≤ℤ t)) (take_all c.loop-a.a c.args.ds.now c.loop-a-test.false) inv.1;
      small = inv.2;
    }
