-- The lines of a text, and the commands that they ask for.
use Rattle.std.specs.Prelude.{◌≡◌, ◌≢◌, ◌+◌, ℕ, List, [], ◌∷◌, ◌++◌, length, ◌⊎◌, All, Contains, Option, Some, None}
use Rattle.std.specs.List.{flat_map}
use Rattle.wire_records.specs.Records.{encoding}
use Rattle.wire_records.specs.Commands.{Command}
use Rattle.wire_records.specs.CommandRecords.{record_of}
use Rattle.wire_records.specs.declared.version.Version.{Version}
use Rattle.order_text.specs.Lines.{IsBlank, Asked, commands_of, Says, SaysNothing}

-- a piece with no line feed (10) in it
abbrev pub HasNoFeed : List ℕ → Type 0
HasNoFeed piece = ¬ Contains piece 10

-- pieces, each followed by a line feed
abbrev pub ended_by_feeds : List (List ℕ) → List ℕ
ended_by_feeds pieces = flat_map (λ piece. piece ++ 10 ∷ []) pieces

-- The lines of these bytes, which more of the text may follow: the pieces before line feeds, and the piece after the last line
-- feed, if it isn't empty and the text has no more.
pub record AreLines (More : Type 0) (bytes : List ℕ) (lines : List (List ℕ)) : Type 0 where
  pub ended : List (List ℕ)
  pub last : List ℕ
  pub whole : bytes ≡ ended_by_feeds ended ++ last
  pub pieces : All HasNoFeed ended
  pub piece : HasNoFeed last
  pub all : ((lines ≡ ended) × (More ⊎ (last ≡ []))) ⊎ ((lines ≡ ended ++ last ∷ []) × (¬ More) × (last ≢ []))

-- the bytes of the records of commands, one after the other
abbrev pub encode_commands : List Command → List ℕ
encode_commands commands = flat_map (λ command. encoding (record_of command)) commands

-- In a version.
module _ (version : Version) where
  -- the lines ask for these commands of the version, one line after the other, given the tickers of the lines before, and `after` are
  -- the tickers after them; a blank line asks for none
  abbrev pub Say : List (List ℕ) → List (List ℕ) → List Command → List (List ℕ) → Type 0
  Say tickers [] commands after = (commands ≡ []) × (after ≡ tickers)
  Say tickers (line ∷ lines) commands after =
      (IsBlank line × Say tickers lines commands after)
      ⊎ ((asked : Asked) × (rest : List Command) × (next : List (List ℕ)) × Says version tickers line asked next × Say next lines rest after × (commands ≡ commands_of asked ++ rest))

  -- `read` are all the lines, or the next one is neither blank nor a command and has this number, counted from 1
  abbrev pub StopsAtLine : List (List ℕ) → List (List ℕ) → List (List ℕ) → Option ℕ → Type 0
  StopsAtLine tickers read lines None = lines ≡ read
  StopsAtLine tickers read lines (Some number) =
      (bad : List ℕ) × (more : List (List ℕ)) × (lines ≡ read ++ bad ∷ more) × SaysNothing version tickers bad × (number ≡ length read + 1)

-- In a version, from the tickers on that are known before the first line.
module _ (version : Version) (known : List (List ℕ)) where
  -- The lines before the first that is no command, or all of them, ask for these commands. Each text has one such reading, by
  -- the laws.
  pub record AreRead (More : Type 0) (bytes : List ℕ) (bad : Option ℕ) (commands : List Command) : Type 0 where
    pub lines : List (List ℕ)
    pub read : List (List ℕ)
    pub tickers : List (List ℕ)
    pub split : AreLines More bytes lines
    pub say : Say version known read commands tickers
    pub stops : StopsAtLine version tickers read lines bad

  -- The first lines ask for these commands.
  pub record AreFirst (More : Type 0) (bytes : List ℕ) (commands : List Command) : Type 0 where
    pub lines : List (List ℕ)
    pub read : List (List ℕ)
    pub more : List (List ℕ)
    pub tickers : List (List ℕ)
    pub split : AreLines More bytes lines
    pub prefix : lines ≡ read ++ more
    pub say : Say version known read commands tickers

  -- The first lines ask for these commands, and the line after them isn't blank.
  pub record HaveNext (More : Type 0) (bytes : List ℕ) (commands : List Command) : Type 0 where
    pub lines : List (List ℕ)
    pub read : List (List ℕ)
    pub next : List ℕ
    pub more : List (List ℕ)
    pub tickers : List (List ℕ)
    pub split : AreLines More bytes lines
    pub prefix : lines ≡ read ++ next ∷ more
    pub say : Say version known read commands tickers
    pub written : ¬ IsBlank next
