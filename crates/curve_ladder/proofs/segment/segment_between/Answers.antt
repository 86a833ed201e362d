use Rattle.std.proofs.Common.{rules}
use Rattle.curve_ladder.proofs.segment.segment_between.Goals as goal

pub returns-then-next-point : goal.returns-then-next-point
returns-then-next-point c = search rules
