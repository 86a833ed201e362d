-- A session after the live orders were lent as one list.
use Rattle.std.specs.Prelude.{◌≡◌, ⊤}
use Rattle.std.specs.Borrow.{follows_so, Fml, MutBor}
use mathlib.Core.Option.{none}
use Rattle.market_rules.specs.Market.{Market}
use Rattle.exchange_session.specs.contracts.session.Session.{the_row}

-- once the list is no longer used, the market is as it was before
abbrev pub StaysAsListed : MutBor Market → Fml
StaysAsListed session = follows_so the_row the_row session.ghost_name none (λ _ _. ⊤) (λ after. after ≡ session.now)
