-- The reply that a command gets.
use Rattle.wire_records.specs.Commands.{Command, Plain}
use Rattle.wire_records.specs.declared.reply.Reply.{Reply}
use Rattle.market_rules.specs.Market.{Market}
use Rattle.market_rules.specs.Step.{ServesPlain}

-- the reply that a command gets from this market, if it holds no batch: some market follows with it by the rules
abbrev pub IsExpected : Market → Command → Reply → Type 0
IsExpected m command reply = (new : Market) × ServesPlain m command (Plain reply) new
