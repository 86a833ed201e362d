-- What encoding the lines of a text results in. `before` and `after` are the sink's bytes, if they are known content.
use Rattle.std.specs.Prelude.{ℕ, List, Option, Some, None, Result, Ok, Err}
use Rattle.flow_io.specs.Streams.{Grows, GrowsByPrefix}
use Rattle.wire_records.specs.Commands.{Command}
use Rattle.wire_records.specs.declared.version.Version.{Version}
use Rattle.line_records.specs.declared.encode.EncodeFault.{EncodeFault}
use Rattle.line_records.specs.declared.encode.EncodeFault.TheVariants.{NoCommand, Write, Memory}
use Rattle.line_records.specs.Lines.{AreRead, AreFirst, HaveNext, encode_commands}

-- In a version, from the tickers on that are known before the first line.
module _ (version : Version) (known : List (List ℕ)) where
  -- The records of all commands up to the first line that is none, or to the end, were written.
  pub record HasEncoded (More : Type 0) (bytes : List ℕ) (bad : Option ℕ) (before after : Option (List ℕ)) : Type 0 where
    pub commands : List Command
    pub read : AreRead version known More bytes bad commands
    pub written : Grows before after (encode_commands commands)

  -- the lines of a text were encoded with this result
  abbrev pub IsEncoded : Type 0 → List ℕ → Result (Unit {0}) EncodeFault → Option (List ℕ) → Option (List ℕ) → Type 0
  IsEncoded More bytes (Ok _) before after = HasEncoded More bytes None before after
  IsEncoded More bytes (Err (NoCommand number)) before after = HasEncoded More bytes (Some number) before after
  IsEncoded More bytes (Err Write) before after = (commands : List Command) × AreFirst version known More bytes commands × GrowsByPrefix before after (encode_commands commands)
  IsEncoded More bytes (Err Memory) before after = (commands : List Command) × HaveNext version known More bytes commands × Grows before after (encode_commands commands)
