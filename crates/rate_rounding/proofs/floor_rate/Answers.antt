use Rattle.std.proofs.Common.{arith}
use Rattle.rate_rounding.proofs.floor_rate.Goals as goal

pub returns-clause-small : goal.returns-clause-small
returns-clause-small c = omega (arith, c.floor_rate.ensures.within_room, c.curve.result.within_limits.room_most, c.curve.result.within_limits.rate_most)
