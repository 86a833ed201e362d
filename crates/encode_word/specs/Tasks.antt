-- `flow encode` as a task, by the version of what it writes.
use Rattle.std.specs.Prelude.{◌≡◌, ◌⊎◌, ◌+◌, ◌<◌, [], length, take}
use Rattle.wire_records.specs.declared.version.Version.{Version}
use Rattle.word_driver.specs.Does.{Task}
use Rattle.encode_word.specs.declared.stop.EncodeStop.{EncodeStop}
use Rattle.encode_word.specs.Encoding.{EncodesInput, EncodesInto, EncodesShort}

-- What out may hold before the end, besides nothing, is the command file of the first lines, however many bytes were read: it reads its
-- complete input, and makes the market of a checkpoint, before it writes. It may run out of memory then, or at a line that isn't blank.
abbrev pub encode_task : Version → Task EncodeStop
encode_task version = record {
  Comes = λ limit bytes ended text. EncodesInput version (limit < length bytes) (take limit bytes) ended text;
  Begins = λ limit bytes n text. (text ≡ []) ⊎ EncodesInto version (limit < length bytes) (take limit bytes) text;
  Lacks = λ limit bytes text. (text ≡ []) ⊎ EncodesShort version (limit < length bytes) (take limit bytes) text;
  Passed = λ limit bytes n text. ⊥;
  ahead = λ limit. limit + 1;
  most_taken = λ limit. limit + 1;
  left = λ bytes. [];
}
