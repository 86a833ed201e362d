use Rattle.std.proofs.Common.{arith}
use Rattle.market_snapshot.proofs.Walking.{stands}
use Rattle.market_snapshot.proofs.places.whole_size.Goals as goal

pub returns-then-left-lt-ORDER-clause-none : goal.returns-then-left-lt-ORDER-clause-none
returns-then-left-lt-ORDER-clause-none c = λ o rest fits is.
    let at = stands o c.args.place c.args.bytes.now rest fits is in
    absurd (omega (arith, at.short, c.if-left-lt-ORDER.true))

pub returns-then-left-size-clause-none : goal.returns-then-left-size-clause-none
returns-then-left-size-clause-none c = λ o rest fits is.
    let at = stands o c.args.place c.args.bytes.now rest fits is in
    absurd (omega (arith, at.whole, c.u8_at.ensures, c.from.ensures, c.if-left-size.true))
