use Rattle.std.proofs.Common.{◌≡◌, ◌+◌, ◌*◌, ◌∙◌, ap, arith}
use Rattle.byte_places.specs.Places.{unsigned_at}
use Rattle.market_snapshot.proofs.Sizing.{none_passed_on, one_passed_on, all_passed, some_left, next_left}
use Rattle.market_snapshot.proofs.size.orders_end.Goals as goal

pub loop-passed-init : goal.loop-passed-init
loop-passed-init c = record {
  inside = c.requires.inside;
  few = omega arith;
  ahead = none_passed_on c.args.bytes.now c.args.first c.args.count;
}

pub returns-then-there-lt-ORDER : goal.returns-then-there-lt-ORDER
returns-then-there-lt-ORDER c = λ orders more rest many fit here.
    let i = c.loop-passed.invariant in
    let l = c.loop-passed in (
      some_left c.args.bytes.now more rest c.args.first l.end l.passed c.args.count i.ahead orders many fit here c.requires.inside i.inside,
      λ there. absurd (omega (arith, there, c.if-there-lt-ORDER.true, c.loop-passed-test.true, i.inside)),
    )

pub returns-then-there-size : goal.returns-then-there-size
returns-then-there-size c = λ orders more rest many fit here.
    let i = c.loop-passed.invariant in
    let l = c.loop-passed in
    let size : 53 + 6 * c.from.result ≡ 53 + 6 * unsigned_at 1 (l.end + 52) c.args.bytes.now = ap (λ n. 53 + 6 * n) (c.from.ensures ∙ c.u8_at.ensures) in (
      next_left c.args.bytes.now more rest c.args.first l.end l.passed c.args.count i.ahead orders many fit here c.requires.inside i.inside (53 + 6 * c.from.result) c.loop-passed-test.true size (omega (arith, c.if-there-lt-ORDER.false, i.inside)),
      λ there. absurd (omega (arith, there, c.if-there-size.true, i.inside)),
    )

pub loop-passed-preserved : goal.loop-passed-preserved
loop-passed-preserved c =
    let i = c.loop-passed.invariant in
    let l = c.loop-passed in
    let size : 53 + 6 * c.from.result ≡ 53 + 6 * unsigned_at 1 (l.end + 52) c.args.bytes.now = ap (λ n. 53 + 6 * n) (c.from.ensures ∙ c.u8_at.ensures) in
    record {
      inside = omega (arith, c.if-there-size.false, i.inside);
      few = omega (arith, c.loop-passed-test.true);
      ahead = one_passed_on c.args.bytes.now c.args.first l.end l.passed c.args.count (53 + 6 * c.from.result) i.ahead c.loop-passed-test.true size (omega (arith, c.if-there-lt-ORDER.false, i.inside));
    }

pub returns : goal.returns
returns c = λ orders more rest many fit here.
    let i = c.loop-passed.invariant in
    let l = c.loop-passed in
    let all = all_passed c.args.bytes.now more rest c.args.first l.end l.passed c.args.count i.ahead orders many fit here c.requires.inside i.inside (omega (arith, i.few, c.loop-passed-test.false)) in
    (omega (arith, all), λ there. all)
