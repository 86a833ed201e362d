use Rattle.std.proofs.Common.{pos, refl, replicate}
use Rattle.flow_accounts.proofs.ListLemmas.{zero_at}
use Rattle.flow_accounts.specs.Places.{HasSpare}
use Rattle.flow_accounts.proofs.places.no_units.Goals as goal

none_used : HasSpare 0 (replicate 64 (pos 0))
none_used = record { places_made = refl; zero_beyond = λ k beyond. zero_at 64 k }

pub returns : goal.returns
returns c = none_used
