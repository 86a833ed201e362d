-- What reading the beginning of a history from a source answers.
use Rattle.std.specs.Prelude.{◌≡◌, ◌+◌, ◌≤◌, ℕ, List, ◌++◌, length, take, Option, None, Result, Ok, Err}
use Rattle.flow_io.specs.Streams.{Takes}
use Rattle.flow_io.specs.Windows.{WindowState}
use Rattle.wire_records.specs.Grammars.{BeginsWithNone}
use Rattle.file_units.specs.Inputs.{known}
use Rattle.market_rules.specs.Market.{Market}
use Rattle.market_history.specs.declared.start.StartFault.{StartFault}
use Rattle.market_history.specs.declared.start.StartFault.TheVariants.{Read, Memory, NotFlow, NoCheckpoint}
use Rattle.market_snapshot.specs.Checkpoints.{HasCheckpointMagic}
use Rattle.market_history.specs.Histories.{Start, market_of, starts, BeginsUnsound, BeginsOtherwise}

-- A history begins in this market: its beginning was taken from the source and left the window, and the window holds what was taken after
-- it. The end of the input wasn't seen.
pub record Begins (before after : Option (List ℕ)) (window : WindowState) (market : Market) : Type 0 where
  pub start : Start
  pub lawful : starts.IsLawful start
  pub market_is : market ≡ market_of start
  pub takes : Takes before after (starts.encode start ++ window.held)
  pub place : window.place ≡ length (starts.encode start)
  pub within : window.place + length window.held ≤ window.limit
  pub unended : window.over ≡ None

-- `Are` holds of the bytes of the input within the limit; bytes up to one past the limit were taken.
pub record AreFound (limit : ℕ) (before after : Option (List ℕ)) (Are : List ℕ → Type 0) : Type 0 where
  pub taken : List ℕ
  pub takes : Takes before after taken
  pub few : length taken ≤ limit + 1
  pub are : Are (take limit (known taken after))

-- `Are` holds of the bytes that were taken of the input, all of which are within the limit.
pub record AreTaken (limit : ℕ) (before after : Option (List ℕ)) (Are : List ℕ → Type 0) : Type 0 where
  pub taken : List ℕ
  pub takes : Takes before after taken
  pub few : length taken ≤ limit
  pub are : Are taken

-- what was found and taken, by the answer: a market in which a history begins, or why there is none
abbrev pub FindsStart : (limit : ℕ) → Option (List ℕ) → Option (List ℕ) → WindowState → Result Market StartFault → Type 0
FindsStart limit before after window (Ok market) = Begins before after window market
FindsStart limit before after window (Err Read) = AreTaken limit before after (BeginsWithNone starts)
FindsStart limit before after window (Err Memory) = AreTaken limit before after HasCheckpointMagic
FindsStart limit before after window (Err NotFlow) = AreFound limit before after BeginsOtherwise
FindsStart limit before after window (Err NoCheckpoint) = AreFound limit before after BeginsUnsound
