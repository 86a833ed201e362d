-- What a window over a source holds, and what filling it does.
use Rattle.std.specs.Prelude.{◌≡◌, ◌+◌, ◌≤◌, ℕ, List, [], ◌++◌, length, Option, Some, None}
use Rattle.flow_io.specs.Streams.{Takes}
use Rattle.flow_io.specs.declared.window.InputEnd.{InputEnd}
use Rattle.flow_io.specs.declared.window.InputEnd.TheVariants.{Source, Limit}

-- A window: the bytes that it holds, how many were given up before them, how many it can hold, how many bytes of the source it
-- considers at most, and how the input ends, once that was seen.
pub record WindowState : Type 0 where
  pub held : List ℕ
  pub place : ℕ
  pub room : ℕ
  pub limit : ℕ
  pub over : Option InputEnd

-- a window that holds nothing, and has given up and seen nothing
abbrev pub empty_window : (room limit : ℕ) → WindowState
empty_window room limit = record { held = []; place = 0; room = room; limit = limit; over = None }

-- the bytes given up and those held are within the limit together, and are exactly as many if the source was seen to have more
abbrev pub IsWithin : (place held limit : ℕ) → Option InputEnd → Type 0
IsWithin place held limit (Some Limit) = place + held ≡ limit
IsWithin place held limit (Some Source) = place + held ≤ limit
IsWithin place held limit None = place + held ≤ limit

-- the bytes that a call took and discarded: one if it saw that the source has more than the limit, else none
abbrev pub IsPast : Option InputEnd → Option InputEnd → List ℕ → Type 0
IsPast None (Some Limit) past = length past ≡ 1
IsPast None (Some Source) past = past ≡ []
IsPast None None past = past ≡ []
IsPast (Some end) now past = past ≡ []

-- The bytes that were taken from a source were appended to those held, except for the one past the limit.
pub record Fills (old new : WindowState) (before after : Option (List ℕ)) : Type 0 where
  pub joined : List ℕ
  pub past : List ℕ
  pub holds : new ≡ record old { held = old.held ++ joined; over = new.over }
  pub taken : Takes before after (joined ++ past)
  pub beyond : IsPast old.over new.over past

-- Bytes were taken from a source past a window that holds nothing, as if it had been filled with them and they had then been appended to
-- the prefix.
pub record FillsPast (old new : WindowState) (prefix now : List ℕ) (before after : Option (List ℕ)) : Type 0 where
  pub joined : List ℕ
  pub past : List ℕ
  pub grew : now ≡ prefix ++ joined
  pub holds : new ≡ record old { place = old.place + length joined; over = new.over }
  pub taken : Takes before after (joined ++ past)
  pub beyond : IsPast old.over new.over past
