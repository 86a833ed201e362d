-- Definitions that only private functions of the report use.
use Rattle.std.specs.Prelude.{ℕ, List, codes, decimal, slice_index_or}
use Rattle.wire_records.specs.Records.{Record}
use Rattle.wire_records.specs.Commands.{Command, Answer, Plain, Batch}
use Rattle.wire_records.specs.declared.reply.Reply.TheVariants.{Done, Asset, Account, Order, Refused}
use Rattle.wire_records.specs.Refusals.{code_of}
use Rattle.wire_records.specs.Versions.{IsReadAs}
use Rattle.flow_orders.specs.Outcomes.{Fill, Outcome, Cleared, Skipped, IsAdmissibleOutcome}
use Rattle.market_rules.specs.Market.{Market}
use Rattle.market_rules.specs.Journal.{Step}
use Rattle.pair_text.specs.Texts.{◌then◌, asset_name}
use Rattle.batch_report.specs.Reports.{command_text, cleared_lines, skipped_line}

-- the fill at a place that has one
abbrev pub fill_at : List Fill → ℕ → Fill
fill_at fills place = slice_index_or fills place (record { order = 0; rate = 0 })

-- the text of a command and its answer, which follows the entry's number
abbrev pub told_text : List (List ℕ) → Command → Answer Outcome → List ℕ
told_text tickers command (Plain Done) = command_text tickers 0 command then codes "\n"
told_text tickers command (Plain (Asset asset)) = codes "asset " then decimal asset then codes " " then asset_name tickers asset then codes "\n"
told_text tickers command (Plain (Account account)) = codes "account " then decimal account then codes "\n"
told_text tickers command (Plain (Order order)) = command_text tickers order command then codes "\n"
told_text tickers command (Plain (Refused refusal)) = codes "refused " then decimal (code_of refusal) then codes "\n"
told_text tickers command (Batch batch (Cleared c)) = cleared_lines tickers batch c
told_text tickers command (Batch batch (Skipped s)) = skipped_line batch s

-- a step of some market answers the record so, and this is the market after it
abbrev pub IsAnswered : Market → Record → Answer Outcome → Type 0
IsAnswered new asked answer = (old : Market) × Step IsReadAs IsAdmissibleOutcome old asked answer new
