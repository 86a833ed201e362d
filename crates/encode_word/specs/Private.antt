-- Definitions that only private functions use: what is found before the lines, and what was written.
use Rattle.std.specs.Prelude.{◌≡◌, ◌⊎◌, ℕ, List, [], drop, Option, Some, None, Ok, Err}
use Rattle.flow_io.specs.Streams.{Grows, GrowsByPrefix}
use Rattle.wire_records.specs.Commands.{Command}
use Rattle.wire_records.specs.declared.version.Version.{Version}
use Rattle.market_rules.specs.Market.{Market}
use Rattle.word_driver.specs.Ended.{Ended}
use Rattle.word_driver.specs.declared.fault.Fault.TheVariants.{Read, Write, Memory, NotFlow, Torn, TooLong, Stopped}
use Rattle.line_records.specs.Lines.{AreFirst, HaveNext, encode_commands}
use Rattle.line_records.specs.Encoded.{HasEncoded}
use Rattle.encode_word.specs.declared.start.StartFault.{StartFault}
use Rattle.encode_word.specs.declared.start.StartFault.TheVariants as fault
use Rattle.encode_word.specs.declared.stop.EncodeStop.{EncodeStop}
use Rattle.encode_word.specs.declared.stop.EncodeStop.TheVariants.{NoCommand, NoCheckpoint}
use Rattle.encode_word.specs.Starts.{known_after, IsCut, BeginsKept, BeginsUnkept, PrecedesLines}

module _ (version : Version) where
  -- a checkpoint of a market of the version, which ends at this place
  abbrev pub FindsCheckpoint : List ℕ → Market → ℕ → Type 0
  FindsCheckpoint bytes market place = BeginsKept version bytes market (drop place bytes)

  -- and these are the tickers of its market
  abbrev pub FindsAfter : List ℕ → List (List ℕ) → ℕ → Type 0
  FindsAfter bytes tickers place = (market : Market) × FindsCheckpoint bytes market place × (tickers ≡ market.tickers)

  -- the lines begin at this place, and these tickers are known before the first of them
  abbrev pub FindsLines : Type 0 → List ℕ → List (List ℕ) → ℕ → Type 0
  FindsLines More bytes tickers place = (start : Option Market) × PrecedesLines version More bytes start (drop place bytes) × (tickers ≡ known_after start)

  -- why no lines begin
  abbrev pub IsStartFault : Type 0 → List ℕ → StartFault → Type 0
  IsStartFault More bytes fault.Cut = IsCut More bytes
  IsStartFault More bytes fault.NoCheckpoint = BeginsUnkept version bytes
  IsStartFault More bytes fault.Memory = Unit {0}

  -- the lines were encoded, from known tickers on and after the magic: how that ends, and what was written
  abbrev pub EncodesAll : List (List ℕ) → Type 0 → List ℕ → Ended EncodeStop → Option (List ℕ) → Option (List ℕ) → Type 0
  EncodesAll known More bytes (Err Write) before after = (commands : List Command) × AreFirst version known More bytes commands × GrowsByPrefix before after (encode_commands commands)
  EncodesAll known More bytes (Err Memory) before after = (commands : List Command) × HaveNext version known More bytes commands × Grows before after (encode_commands commands)
  EncodesAll known More bytes (Err Read) before after = ⊥
  EncodesAll known More bytes (Err NotFlow) before after = ⊥
  EncodesAll known More bytes (Err (Torn n)) before after = ⊥
  EncodesAll known More bytes (Err TooLong) before after = HasEncoded version known More bytes None before after × More
  EncodesAll known More bytes (Err (Stopped (NoCommand number))) before after = HasEncoded version known More bytes (Some number) before after
  EncodesAll known More bytes (Err (Stopped NoCheckpoint)) before after = ⊥
  EncodesAll known More bytes (Ok done) before after = HasEncoded version known More bytes None before after × (¬ More)

-- What was written: by what bytes result in, what their first lines result in, and what was written when memory ran out.
module _ (Comes : Ended EncodeStop → List ℕ → Type 0) (Into Short : List ℕ → Type 0) where
  abbrev pub EndsEncoding : Ended EncodeStop → Option (List ℕ) → Option (List ℕ) → Type 0
  EndsEncoding (Ok done) before after = (text : List ℕ) × Comes (Ok tt) text × Grows before after text
  EndsEncoding (Err TooLong) before after = (text : List ℕ) × Comes (Err TooLong) text × Grows before after text
  EndsEncoding (Err (Stopped why)) before after = (text : List ℕ) × Comes (Err (Stopped why)) text × Grows before after text
  EndsEncoding (Err Write) before after = (text : List ℕ) × Into text × GrowsByPrefix before after text
  EndsEncoding (Err Memory) before after = (text : List ℕ) × ((text ≡ []) ⊎ Short text) × Grows before after text
  EndsEncoding (Err Read) before after = ⊥
  EndsEncoding (Err NotFlow) before after = ⊥
  EndsEncoding (Err (Torn place)) before after = ⊥
