-- What finding the next line of an input does to the window through which it is read, and to its source.
use Rattle.std.specs.Prelude.{◌≡◌, ◌≢◌, ◌<◌, ◌≤◌, ◌+◌, ℕ, List, [], ◌∷◌, ◌++◌, length, drop, take, Option, Some, IfSome}
use Rattle.flow_io.specs.Streams.{Takes}
use Rattle.flow_io.specs.Windows.{WindowState}
use Rattle.flow_io.specs.declared.window.InputEnd.TheVariants.{Source, Limit}
use Rattle.line_records.specs.Lines.{HasNoFeed}
use Rattle.input_lines.specs.Long.{most_line, IsLongerThan}
use Rattle.input_lines.specs.declared.lines.Next.{Next}
use Rattle.input_lines.specs.declared.lines.Next.TheVariants as next

-- A window whose input may be read on for lines of at most so many bytes: it isn't known to go on past the limit, and if it is known to have ended, the source has no more.
pub record IsOpenFor (most : ℕ) (window : WindowState) (rest : Option (List ℕ)) : Type 0 where
  pub room : window.room ≡ most + 1
  pub unlimited : window.over ≢ Some Limit
  pub ended : window.over ≡ Some Source → IfSome rest (λ left. left ≡ [])
  pub within : window.place + length window.held ≤ window.limit

-- a window whose input may be read on for lines that aren't too long
abbrev pub IsOpen : WindowState → Option (List ℕ) → Type 0
IsOpen window rest = IsOpenFor most_line window rest

-- the input ended, and the source has no more
abbrev pub HasEnded : WindowState → Option (List ℕ) → Type 0
HasEnded window rest = (window.over ≡ Some Source) × IfSome rest (λ left. left ≡ [])

-- what was found among lines of at most so many bytes, of all bytes that a window held and that were joined to them
module _ (most : ℕ) (old new : WindowState) (after : Option (List ℕ)) (past all : List ℕ) where
  abbrev pub Found : Next → Type 0
  Found (next.Line size) =
      (new.held ≡ all) × (new.place ≡ old.place) × (size < length all) × (size ≤ most) × HasNoFeed (take size all) × (all ≡ take size all ++ 10 ∷ drop (size + 1) all)
      × (past ≡ []) × IsOpenFor most new after
  Found next.Long =
      (line : List ℕ) × IsLongerThan most line × HasNoFeed line × (all ≡ line ++ 10 ∷ new.held) × (new.place ≡ old.place + (length line + 1)) × (past ≡ []) × IsOpenFor most new after
  Found next.Last = (new.held ≡ all) × (new.place ≡ old.place) × (all ≢ []) × (length all ≤ most) × HasNoFeed all × (past ≡ []) × IsOpenFor most new after × HasEnded new after
  Found next.LongLast = IsLongerThan most all × HasNoFeed all × (past ≡ []) × HasEnded new after
  Found next.End = (all ≡ []) × (past ≡ []) × HasEnded new after
  Found next.Limit = HasNoFeed all × (length past ≡ 1) × (old.place + length all ≡ old.limit)

-- Bytes were taken from a source, and what comes next was found among lines of at most so many bytes.
pub record FindsNextWithin (most : ℕ) (old new : WindowState) (before after : Option (List ℕ)) (found : Next) : Type 0 where
  pub joined : List ℕ
  pub past : List ℕ
  pub takes : Takes before after (joined ++ past)
  pub limit : new.limit ≡ old.limit
  pub within : old.place + length (old.held ++ joined) ≤ old.limit
  pub is : Found most old new after past (old.held ++ joined) found

-- bytes were taken from a source, and what comes next was found
abbrev pub FindsNext : (old new : WindowState) → (before after : Option (List ℕ)) → Next → Type 0
FindsNext old new before after found = FindsNextWithin most_line old new before after found

-- Bytes were taken from a source, and no line feed is among them or those held.
pub record FindsNoFeed (old : WindowState) (before after : Option (List ℕ)) : Type 0 where
  pub joined : List ℕ
  pub takes : Takes before after joined
  pub within : old.place + length (old.held ++ joined) ≤ old.limit
  pub piece : HasNoFeed (old.held ++ joined)
