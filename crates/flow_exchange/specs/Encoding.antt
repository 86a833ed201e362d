-- What `flow encode` makes of the bytes of its source.
use Rattle.std.specs.Prelude.{◌≡◌, ◌<◌, ℕ, List, length, take}
use Rattle.wire_records.specs.declared.version.Version.{Version}
use Rattle.word_driver.specs.Ended.{Ended}
use Rattle.encode_word.specs.declared.stop.EncodeStop.{EncodeStop}
use Rattle.encode_word.specs.Encoding.{EncodesInput}
use Rattle.exit_status.specs.declared.status.Status.{Status}
use Rattle.flow_exchange.specs.Statuses.{ended_status, unencoded}

-- the status and the text that the first `limit` bytes result in
abbrev pub EncodesTo : Version → ℕ → List ℕ → Status → List ℕ → Type 0
EncodesTo version limit bytes status text =
    (ended : Ended EncodeStop) × EncodesInput version (limit < length bytes) (take limit bytes) ended text × (status ≡ ended_status limit unencoded ended)
