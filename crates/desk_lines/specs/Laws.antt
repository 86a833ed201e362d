-- What holds of lines of many senders. The module `laws` has a function for each of these.
use Rattle.std.specs.Prelude.{◌≡◌, ℕ, List}
use Rattle.wire_records.specs.declared.version.Version.{Version}
use Rattle.answer_text.specs.declared.header.Recipient.{Recipient}
use Rattle.desk_messages.specs.Desks.{Desks}
use Rattle.desk_lines.specs.Hearing.{Heard, IsHeard}
use Rattle.desk_lines.specs.Wishes.{Wish, IsWish}

-- a line is heard in one way
abbrev pub OneHearing : Type 0
OneHearing = (d : Desks) (line : List ℕ) (a b : Heard) → IsHeard d line a → IsHeard d line b → a ≡ b

-- no line is heard in no way
abbrev pub SomeHearing : Type 0
SomeHearing = (d : Desks) (line : List ℕ) → ¬ ((heard : Heard) → ¬ IsHeard d line heard)

-- a text of a sender asks for one thing
abbrev pub OneWish : Type 0
OneWish =
    (version : Version) (tickers : List (List ℕ)) (d : Desks) (sender : Recipient) (text : List ℕ) (a b : Wish)
    → IsWish version tickers d sender text a → IsWish version tickers d sender text b → a ≡ b

-- no text of a sender is without what it asks for
abbrev pub SomeWish : Type 0
SomeWish =
    (version : Version) (tickers : List (List ℕ)) (d : Desks) (sender : Recipient) (text : List ℕ) → ¬ ((wish : Wish) → ¬ IsWish version tickers d sender text wish)
