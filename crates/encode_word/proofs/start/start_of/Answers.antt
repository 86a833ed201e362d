use Rattle.std.proofs.Common.{Some}
use Rattle.encode_word.proofs.start.start_of.Goals as goal

pub returns-in-Ok-clause-found : goal.returns-in-Ok-clause-found
returns-in-Ok-clause-found c = let after = c.in-Ok.ensures.found in (Some after.0, after.1, after.2)
