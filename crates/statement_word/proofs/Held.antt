-- What an account has in a market, however it is given, makes the same lines.
use Rattle.std.proofs.Common.{◌≡◌, ℕ, Result}
use Rattle.wire_records.specs.Commands.{Command, Answer}
use Rattle.wire_records.specs.declared.command.BodyFault.{BodyFault}
use Rattle.flow_accounts.specs.Balances.{IsAccount}
use Rattle.flow_orders.specs.Outcomes.{Outcome}
use Rattle.market_rules.specs.Market.{Market, IsConsistent}
use Rattle.statement_rules.specs.Views.{seen}
use Rattle.statement_rules.specs.Holdings.{Holding, held_in, IsHeld}
use Rattle.statement_rules.specs.Statements.{lines_from, end_lines}
use Rattle.statement_rules.proofs.Alike.{holdings_tell_alike}
use Rattle.statement_rules.proofs.FromMarkets.{held_there}

-- the lines of an entry
pub lines_are : (account : ℕ) (m : Market) (h : Holding) → IsHeld account m h → (read : Result Command BodyFault) (a : Answer Outcome)
    → lines_from h (seen account m read a) ≡ lines_from (held_in account m) (seen account m read a)
lines_are account m h held read a = holdings_tell_alike.lines account m h (held_in account m) (seen account m read a) held (held_there account m)

-- the last lines
pub ends_are : (account : ℕ) (m : Market) (h : Holding) → IsConsistent m → IsAccount m.balances account → IsHeld account m h → end_lines h ≡ end_lines (held_in account m)
ends_are account m h consistent there held = holdings_tell_alike.last account m h (held_in account m) consistent there held (held_there account m)
