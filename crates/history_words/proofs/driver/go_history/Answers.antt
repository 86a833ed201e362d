use Rattle.std.proofs.Common.{ap}
use Rattle.history_words.proofs.driver.go_history.Goals as goal

pub returns : goal.returns
returns g c = record { does = c.go_history_from.ensures.does (λ market. g.P.OnPair.seen c.args.on market) (λ market on made. ap (λ p. g.P.OnPair.seen p market) made) }
