use Rattle.std.proofs.Common.{◌≡◌, ◌∙◌, ◌-◌, ◌+◌, suc, sym, arith}
use Rattle.joint_rounds.proofs.RoundFacts.{rounds_more, rounds_little, rounds_spent}
use Rattle.joint_rounds.proofs.rounds.make_rounds.Goals as goal

pub returns-then-is_little-clause-value : goal.returns-then-is_little-clause-value
returns-then-is_little-clause-value c =
    let k = c.loop-round._round in
    let left : 100 - k ≡ suc (100 - (k + 1)) = omega (arith, c.loop-round-test.true) in
    sym (rw left at c.loop-round.invariant.0 ∙ rounds_little (100 - (k + 1)) _ _ _ _ _ _ _ (sym c.is_little.ensures ∙ c.if-is_little.true))

pub loop-round-preserved : goal.loop-round-preserved
loop-round-preserved c =
    let k = c.loop-round._round in
    let inv = c.loop-round.invariant in
    let left : 100 - k ≡ suc (100 - (k + 1)) = omega (arith, c.loop-round-test.true) in (
      rw left at inv.0 ∙ rounds_more (100 - (k + 1)) _ _ _ _ _ _ _ _ _ _ (sym c.is_little.ensures ∙ c.if-is_little.false) c.round.ensures.moves c.round.ensures.left c.round.ensures.direction,
      c.round.auto.sums ∙ inv.1,
      c.round.auto.moves ∙ inv.2,
      c.round.auto.direction ∙ inv.3,
      c.round.auto.left ∙ inv.4,
      c.round.auto.flow ∙ inv.5,
      c.round.auto.turn ∙ inv.6,
      c.round.auto.flat ∙ inv.7,
      c.round.ensures.flat,
    )

pub returns-clause-value : goal.returns-clause-value
returns-clause-value c = sym (c.loop-round.invariant.0 ∙ rounds_spent _ _ _ _ _ _ _ _ (omega (arith, c.loop-round-test.false)))
