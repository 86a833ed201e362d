-- The input of a call that keeps a journal: how it begins, and how much was taken of it.
use Rattle.std.specs.Prelude.{◌≡◌, ◌⊎◌, ◌≤◌, ℕ, List, [], take, Option, Some, None, IfSome}
use Rattle.wire_records.specs.declared.version.Version.{Version}
use Rattle.word_driver.specs.Does.{IsTaken}
use Rattle.market_snapshot.specs.Checkpoints.{HasCheckpointMagic, BeginsWithNoCheckpoint}
use Rattle.market_history.specs.Histories.{Start}

-- How an input begins.
pub record InputStarts : Type 1 where
  -- bytes that begin so, and those after the beginning
  pub Begins : List ℕ → Start → List ℕ → Type 0
  -- how a new journal may begin
  pub MayBegin : Start → Type 0
  -- So many bytes, which are these, don't show yet how the input begins. Where a version is given, it is that of a journal that is continued; where none
  -- is, the journal is new.
  pub IsPart : Option Version → ℕ → List ℕ → Type 0

-- the bytes begin with the magic of a checkpoint, but with no checkpoint of a consistent market
abbrev pub BeginsUnsound : List ℕ → Type 0
BeginsUnsound bytes = HasCheckpointMagic bytes × BeginsWithNoCheckpoint bytes

-- the input begins with the magic of a checkpoint, and was read no further than the limit
abbrev pub IsInCheckpoint : ℕ → Option (List ℕ) → Option (List ℕ) → Type 0
IsInCheckpoint limit content left =
    IfSome content (λ bytes. HasCheckpointMagic (take limit bytes) × (taken : ℕ) × IsTaken bytes left taken × (taken ≤ limit))

module _ (starts : InputStarts) (limit : ℕ) where
  -- the input begins so within the limit, if its content is known
  abbrev pub InputBegins : Option (List ℕ) → Start → Type 0
  InputBegins content input = IfSome content (λ bytes. (body : List ℕ) × starts.Begins (take limit bytes) input body)

  -- what was taken of the input, within the limit, shows how it begins
  abbrev pub HasShownStart : List ℕ → Option (List ℕ) → Type 0
  HasShownStart bytes left =
      (n : ℕ) × IsTaken bytes left n × (input : Start) × (body : List ℕ) × starts.Begins (take n (take limit bytes)) input body
      × ((¬ starts.IsPart None n (take n (take limit bytes))) ⊎ (left ≡ Some []) ⊎ (limit ≤ n))
