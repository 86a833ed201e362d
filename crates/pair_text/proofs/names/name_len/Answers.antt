use Rattle.std.proofs.Common.{subst, arith}
use Rattle.pair_text.proofs.Passed.{HasPassed, one_more, ended, whole}
use Rattle.pair_text.proofs.names.name_len.Goals as goal

pub returns-then-ticker-place-eq32-clause-name : goal.returns-then-ticker-place-eq32-clause-name
returns-then-ticker-place-eq32-clause-name c =
    ended c.args.ticker.now c.loop-place.place c.loop-place-test.true c.if-ticker-place-eq32.true c.loop-place.invariant

pub loop-place-preserved : goal.loop-place-preserved
loop-place-preserved c = one_more c.args.ticker.now c.loop-place.place c.loop-place-test.true c.if-ticker-place-eq32.false c.loop-place.invariant

pub returns-clause-name : goal.returns-clause-name
returns-clause-name c =
    whole c.args.ticker.now
    (subst (HasPassed c.args.ticker.now) (omega (arith, c.loop-place-test.false, c.loop-place.auto.place-end)) c.loop-place.invariant)
