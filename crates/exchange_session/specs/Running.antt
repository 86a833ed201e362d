-- `flow run`: a command file in, a journal out.
use Rattle.std.specs.Prelude.{◌≡◌, ◌++◌, [], Option, Some, None}
use Rattle.wire_records.specs.Records.{Record, longest_record}
use Rattle.wire_records.specs.Formats.{commands}
use Rattle.journal_records.specs.Formats.{journal_magic_of}
use Rattle.market_rules.specs.Market.{Market}
use Rattle.market_rules.specs.Allocating.{RecordMayAllocate}
use Rattle.word_driver.specs.Word.{Word}
use Rattle.word_driver.specs.declared.fault.Never.{Never}
use Rattle.exchange_session.specs.Serving.{AnswersOne}
use Rattle.exchange_session.specs.Journals.{Journals}

-- where a run may run out of memory: at a record that may allocate
abbrev pub RunAllocates : Market → Option Record → Type 0
RunAllocates market (Some asked) = RecordMayAllocate market asked
RunAllocates market None = ⊥

-- a run: each record is answered by one step of the market, and its entry is written after the magic of a journal of
-- the file's version, which is the market's; what was written so far is the journal of the records so far
abbrev pub run : Word Record Market Never
run = record {
  format = commands;
  longest = longest_record;
  opens = journal_magic_of;
  Steps = AnswersOne;
  Stops = λ market at why text. ⊥;
  Closes = λ market text. text ≡ [];
  Allocates = RunAllocates;
  Keeps = λ records market text. Journals market.version records market (journal_magic_of market.version ++ text);
}
