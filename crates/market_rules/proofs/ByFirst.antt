-- The answer to a command, by its first refusal.
use Rattle.std.specs.Prelude.{Option, MatchOption}
use Rattle.wire_records.specs.Commands.{Command, Answer, Plain}
use Rattle.wire_records.specs.declared.reply.Refusal.{Refusal}
use Rattle.wire_records.specs.declared.reply.Reply.TheVariants.{Refused}
use Rattle.flow_orders.specs.Outcomes.{Outcome, BatchRule}
use Rattle.market_rules.specs.Market.{Market}
use Rattle.market_rules.specs.Step.{Accepts, gives}

-- what the answer and the new market are, given the first refusal of the command or none: the field `answered` of `Serves`
abbrev pub Answers : BatchRule → Market → Command → Option Refusal → Answer Outcome → Market → Type 0
Answers Rule m command first answer new = MatchOption first (Accepts Rule m command answer new) (λ refusal. gives (Plain (Refused refusal)) m answer new)
